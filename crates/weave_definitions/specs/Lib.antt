pub mod Weave
pub mod Weaving
