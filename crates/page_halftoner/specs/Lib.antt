pub mod Screenings
pub mod Halftones
pub mod Slabs
pub mod Kept
