pub mod Names
pub mod Paths
pub mod Symbols
pub mod Tokens
pub mod Positions
pub mod Refusals
pub mod Assignments
