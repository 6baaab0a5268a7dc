mod Overrides
mod Latest
pub mod Operands
