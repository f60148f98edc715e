pub mod State
pub mod Calls
pub mod Held
pub mod Seen
