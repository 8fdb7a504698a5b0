-- Proofs for the command `trial`.
pub mod Sheets
pub mod Sums
pub mod Steps
pub mod Made
pub mod Promised
