pub mod Words
pub mod Generated
pub mod Ends
pub mod Stops
pub mod Parts
