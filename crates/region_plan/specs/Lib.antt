pub mod Registers
pub mod Request
pub mod Plan
pub mod Pinned
pub mod Script
pub mod Views
pub mod Rules
