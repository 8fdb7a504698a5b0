pub mod Inks
pub mod Works
pub mod Given
pub mod Tops
pub mod Worked
pub mod Content
pub mod Tiles
