pub mod RowDots
pub mod RasterDots
pub mod OverDots
pub mod Refusals
pub mod Placing
pub mod OnGrid
pub mod Running
