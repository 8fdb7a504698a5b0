pub mod Black
pub mod Columns
pub mod Examples
pub mod Given
pub mod Planes
pub mod Scaling
pub mod Separated
pub mod Separators
