pub mod Answers
pub mod Chains
pub mod Literals
pub mod Onward
