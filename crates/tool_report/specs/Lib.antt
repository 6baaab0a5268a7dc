pub mod Literals
pub mod Parts
