pub mod Lines
pub mod Raw
pub mod Gathering
pub mod Squares
