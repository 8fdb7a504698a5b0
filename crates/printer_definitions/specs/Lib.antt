pub mod Inks
pub mod Printer
