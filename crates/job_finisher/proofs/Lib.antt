pub mod Pieces
pub mod PartBounds
pub mod PassedBytes
pub mod FinishedJobs
