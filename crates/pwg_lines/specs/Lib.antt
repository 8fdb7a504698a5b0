pub mod States
pub mod Reading
pub mod Canonical
