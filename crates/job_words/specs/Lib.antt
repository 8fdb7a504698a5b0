pub mod DeadLists
pub mod Examples
pub mod Jobs
pub mod Meaning
pub mod Rows
pub mod Table
pub mod Values
