pub mod Entries
pub mod State
pub mod Variables
pub mod Runs
pub mod Exits
pub mod Evaluating
pub mod Words
