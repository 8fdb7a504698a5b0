-- The command `profile`.
pub mod Outcome
pub mod Promises
