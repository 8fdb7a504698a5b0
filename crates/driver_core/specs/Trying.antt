-- The command `trial`.
pub mod Summary
pub mod Outcome
pub mod Pages
pub mod Promises
pub mod Examples
