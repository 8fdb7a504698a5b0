pub mod Sized
pub mod Stroked
pub mod Examples
pub mod Shingles
