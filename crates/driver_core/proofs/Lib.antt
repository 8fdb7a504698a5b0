pub mod Printing
pub mod Playing
pub mod Listing
pub mod Showing
pub mod Runs
pub mod Trying
