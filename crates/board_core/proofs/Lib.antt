pub mod Numbers
pub mod Once
pub mod Keeps
pub mod Runs
pub mod Idle
pub mod Ready
pub mod Records
