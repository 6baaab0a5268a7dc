pub mod Places
pub mod Ends
pub mod Choices
pub mod Deciding
pub mod Forgetting
pub mod Steps
