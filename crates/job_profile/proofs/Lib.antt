pub mod Shelved
pub mod BuiltIn
