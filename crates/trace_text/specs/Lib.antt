pub mod Lines
pub mod Views
pub mod Text
pub mod Forms
pub mod Orders
pub mod Reading
pub mod Traces
pub mod LineReading
