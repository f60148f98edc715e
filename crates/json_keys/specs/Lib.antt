pub mod Json
pub mod Input
