-- Proofs for the command `list`.
pub mod Promised
