pub mod Views
pub mod Needs
