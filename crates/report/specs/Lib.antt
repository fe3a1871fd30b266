pub mod Listing
pub mod Prints
pub mod Examples
