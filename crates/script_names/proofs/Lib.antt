pub mod Given
pub mod Lists
pub mod Marks
pub mod Members
pub mod Valid
