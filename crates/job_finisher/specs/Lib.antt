pub mod Hearing
pub mod Holding
pub mod Passing
pub mod Outcome
pub mod Job
