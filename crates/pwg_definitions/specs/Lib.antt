pub mod Limits
pub mod Header
pub mod Groups
pub mod Stream
pub mod Spelling
