pub mod Filter
pub mod FnKey
pub mod FnLib
pub mod Ids
pub mod Table
pub mod Text
