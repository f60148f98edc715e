pub mod Passes
pub mod Comparing
pub mod Shown
pub mod Verdicts
pub mod Judging
