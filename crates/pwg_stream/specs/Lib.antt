pub mod Groups
pub mod Stops
pub mod Pages
pub mod Reading
pub mod Taken
