pub mod Told
pub mod Fed
pub mod Pieces
