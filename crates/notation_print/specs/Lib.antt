pub mod Nodes
pub mod Notation
