pub mod Grained
