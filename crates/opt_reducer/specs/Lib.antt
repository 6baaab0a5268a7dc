pub mod Blocks
pub mod Going
pub mod Parts
pub mod Pass
