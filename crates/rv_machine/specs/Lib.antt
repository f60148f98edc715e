pub mod Links
pub mod Room
pub mod Harts
pub mod Views
