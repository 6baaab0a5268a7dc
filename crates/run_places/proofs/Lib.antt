pub mod Parts
pub mod AlongKeys
pub mod Indexes
