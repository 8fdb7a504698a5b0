-- The command `print`.
pub mod Setup
pub mod Pages
pub mod Outcome
pub mod One
pub mod Charging
pub mod Counting
pub mod Promises
