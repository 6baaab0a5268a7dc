pub mod Paths
pub mod Words
pub mod Applied
