pub mod Counting
pub mod Following
