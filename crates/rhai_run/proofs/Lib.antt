pub mod Whole
pub mod Parted
