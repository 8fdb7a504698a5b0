pub mod Reading
pub mod SoFar
