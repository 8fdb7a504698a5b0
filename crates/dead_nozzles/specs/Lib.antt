pub mod Dead
pub mod Strokes
pub mod Plans
pub mod Examples
