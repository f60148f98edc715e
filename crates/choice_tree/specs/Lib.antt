pub mod Nodes
pub mod Coding
pub mod Forest
pub mod Seen
pub mod Falls
pub mod Draws
pub mod Trees
