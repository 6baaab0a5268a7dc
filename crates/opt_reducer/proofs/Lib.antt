pub mod Flattening
pub mod Parts
pub mod Passing
pub mod UpTo
pub mod Swept
