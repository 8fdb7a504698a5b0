pub mod Accepted
pub mod Causes
pub mod FirstWords
pub mod Meanings
pub mod Profiles
pub mod SenderNames
