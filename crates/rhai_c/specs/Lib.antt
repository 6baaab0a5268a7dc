pub mod Codes
pub mod Options
pub mod Room
