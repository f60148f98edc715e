pub mod Image
pub mod Justified
pub mod Order
pub mod Run
pub mod Slots
pub mod Answers
pub mod FromReset
