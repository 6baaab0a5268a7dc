pub mod Refined
pub mod Texts
