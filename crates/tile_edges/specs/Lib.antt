pub mod Edges
pub mod Tops
pub mod Reads
pub mod Handed
