pub mod Pieces
pub mod Segments
pub mod Ram
