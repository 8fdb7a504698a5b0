pub mod Lists
pub mod Reports
pub mod Reading
pub mod Works
pub mod Jobs
pub mod Runs
pub mod Rooms
pub mod Valid
