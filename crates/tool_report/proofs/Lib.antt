pub mod Plain
pub mod Printing
