pub mod Key
pub mod Listing
