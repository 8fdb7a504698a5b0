-- Proofs for the command `dots`.
pub mod Promised
