pub mod Open
pub mod Made
