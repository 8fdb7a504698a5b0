pub mod Accepted
pub mod Alone
pub mod Faults
pub mod Meanings
pub mod Stops
