pub mod Jobs
pub mod Passes
pub mod Rule
