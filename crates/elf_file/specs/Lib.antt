pub mod Writing
pub mod Headers
pub mod Messages
pub mod Faults
pub mod Loading
pub mod Taken
pub mod Placing
