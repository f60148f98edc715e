pub mod Operands
pub mod Drawing
