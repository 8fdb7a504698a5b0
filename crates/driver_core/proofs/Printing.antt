-- Proofs for the command `print`.
pub mod Setups
pub mod Counting
pub mod StreamSteps
pub mod Ends
pub mod ByStream
pub mod Promised
