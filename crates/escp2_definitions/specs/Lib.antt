pub mod RowCode
pub mod Least
pub mod Commands
pub mod Written
pub mod Machine
pub mod JobEnds
pub mod Rasters
