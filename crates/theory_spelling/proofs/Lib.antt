pub mod Acts
pub mod Roles
pub mod Tables
pub mod Values
pub mod Captures
pub mod Trees
pub mod Scripts
