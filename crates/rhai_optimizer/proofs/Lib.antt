pub mod Bodies
pub mod Passing
pub mod Scopes
pub mod Whole
