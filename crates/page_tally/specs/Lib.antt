pub mod Tallies
pub mod Lines
pub mod Sheets
pub mod Examples
