pub mod World
pub mod Running
