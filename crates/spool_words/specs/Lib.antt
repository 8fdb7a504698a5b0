pub mod Keys
pub mod Meaning
pub mod Names
pub mod Requests
pub mod Rows
