pub mod Words
pub mod Grammar
pub mod Statements
pub mod Covered
