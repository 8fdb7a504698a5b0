pub mod Filling
pub mod Steps
pub mod Feeding
pub mod WholePackets
pub mod Within
pub mod Writing
pub mod Spelling
