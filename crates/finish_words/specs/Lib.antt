pub mod Faults
pub mod Keys
pub mod Meaning
pub mod Requests
pub mod Rows
