pub mod Hearing
pub mod RowsHeard
pub mod Pieces
pub mod Feeding
pub mod Jobs
