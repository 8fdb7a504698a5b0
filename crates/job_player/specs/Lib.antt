pub mod Images
pub mod Outcome
pub mod Pictures
pub mod Stops
pub mod Totals
pub mod Counting
