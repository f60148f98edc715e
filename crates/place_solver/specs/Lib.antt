pub mod Placing
pub mod Targets
