pub mod Choices
pub mod Keys
pub mod Laws
pub mod Tables
