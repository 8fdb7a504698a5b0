pub mod Drawing
pub mod Making
pub mod Spelled
pub mod Filling
pub mod Giving
pub mod Checked
