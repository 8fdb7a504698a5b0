pub mod Sides
pub mod Passing
pub mod Outcome
pub mod Promises
