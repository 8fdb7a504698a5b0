pub mod Done
pub mod Rows
pub mod Held
pub mod Paces
pub mod Lanes
pub mod Order
pub mod Blank
