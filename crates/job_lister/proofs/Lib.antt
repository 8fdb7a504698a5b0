pub mod Counts
pub mod WordCounts
pub mod RowBits
pub mod RasterDots
pub mod Numbering
pub mod Listing
