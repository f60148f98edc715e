pub mod Examples
pub mod Packing
pub mod Encoded
