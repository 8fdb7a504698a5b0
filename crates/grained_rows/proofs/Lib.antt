pub mod GrainedTile
pub mod Steps
