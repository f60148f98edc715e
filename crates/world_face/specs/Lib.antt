pub mod Runs
pub mod Events
pub mod Told
pub mod Choices
pub mod PagesBook
pub mod Spaces
pub mod Shards
pub mod Views
