pub mod Literals
pub mod Metadata
pub mod Scripts
