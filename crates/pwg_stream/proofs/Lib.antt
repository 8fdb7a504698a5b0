pub mod GroupSizes
pub mod Grouping
pub mod Prefixes
pub mod Faults
pub mod Taken
