pub mod Harts
pub mod Registers
