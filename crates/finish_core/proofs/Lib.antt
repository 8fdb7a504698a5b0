pub mod Bytes
pub mod Seen
pub mod Going
pub mod Jobs
pub mod Ends
pub mod Lines
pub mod Promised
