pub mod Firings
pub mod Rounds
pub mod Rows
