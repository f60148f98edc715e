pub mod Fitting
pub mod Packing
pub mod Li
