pub mod Windows
pub mod Amounts
pub mod Grain
pub mod CanPrint
