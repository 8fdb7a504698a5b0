-- Proofs for a whole run.
pub mod Fitting
pub mod Statuses
pub mod Asked
pub mod Nothing
pub mod WholeJobs
pub mod Performed
pub mod Promised
pub mod AllPromised
