pub mod Finished
pub mod Examples
