pub mod Tops
pub mod Numbers
pub mod Passes
pub mod Laid
pub mod Slab
pub mod Shares
pub mod SoFar
