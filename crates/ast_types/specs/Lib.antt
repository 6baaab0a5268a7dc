pub mod Positions
pub mod Reading
pub mod Defaults
pub mod Lends
