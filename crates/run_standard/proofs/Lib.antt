pub mod Lists
pub mod Entries
pub mod PartSteps
pub mod Readings
pub mod Worked
