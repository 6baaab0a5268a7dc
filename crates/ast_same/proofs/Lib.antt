pub mod Exact
pub mod Items
pub mod Others
pub mod Tokens
