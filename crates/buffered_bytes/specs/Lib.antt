pub mod Gathering
pub mod Outside
pub mod Text
