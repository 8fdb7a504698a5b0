pub mod Outside
pub mod Caps
pub mod Printing
pub mod Playing
pub mod Listing
pub mod Showing
pub mod Trying
pub mod Runs
