-- The command `list`.
pub mod Outcome
pub mod Promises
