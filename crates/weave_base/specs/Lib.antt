pub mod Causes
pub mod InMemory
pub mod Parts
pub mod Shelf
pub mod Shelved
pub mod Words
