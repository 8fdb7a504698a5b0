pub mod Dots
pub mod Slabs
pub mod Passes
pub mod Laying
pub mod SoFar
pub mod Inside
