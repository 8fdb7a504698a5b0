pub mod Examples
pub mod Keys
pub mod Profiles
pub mod Text
pub mod Validity
pub mod Values
pub mod Views
