pub mod Accounts
pub mod Counts
