pub mod Rows
pub mod Images
pub mod Running
pub mod Playing
pub mod SheetDots
pub mod PageRuns
pub mod Blanks
