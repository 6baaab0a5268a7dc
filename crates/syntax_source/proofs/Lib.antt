pub mod Following
pub mod Merging
pub mod Doing
