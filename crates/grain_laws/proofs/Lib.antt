pub mod Tallies
pub mod Rounds
pub mod Shares
pub mod Means
