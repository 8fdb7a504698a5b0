pub mod Fills
pub mod Known
pub mod Whole
