pub mod Holding
pub mod Operands
pub mod Parts
pub mod Words
