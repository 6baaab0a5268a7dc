pub mod Captures
pub mod Bare
pub mod Listed
pub mod Runs
pub mod WorkedListed
