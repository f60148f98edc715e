pub mod Layout
pub mod Boot
pub mod Startup
pub mod Booting
pub mod Passing
