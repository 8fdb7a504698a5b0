pub mod Rows
pub mod Twice
