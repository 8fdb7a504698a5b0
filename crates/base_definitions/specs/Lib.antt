pub mod Counting
pub mod Packed
pub mod Limits
