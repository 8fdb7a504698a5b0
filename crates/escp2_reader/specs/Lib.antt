pub mod Headers
pub mod Stages
pub mod Reading
pub mod Feeding
pub mod Pieces
pub mod Jobs
