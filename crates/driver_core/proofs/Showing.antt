-- Proofs for the command `profile`.
pub mod Promised
