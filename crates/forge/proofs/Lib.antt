pub mod Digits
pub mod Ending
pub mod Examples
pub mod Generating
pub mod Leaving
pub mod Names
pub mod Reading
