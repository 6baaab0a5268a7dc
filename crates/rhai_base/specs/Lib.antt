pub mod Floats
pub mod Value
pub mod Reading
pub mod Operators
pub mod Builtin
pub mod Ranges
pub mod Upward
