-- The command `dots`.
pub mod Outcome
pub mod Promises
