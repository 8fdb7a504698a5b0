pub mod Places
pub mod Reading
pub mod Ends
pub mod Literals
pub mod Passing
pub mod Examples
pub mod Packets
