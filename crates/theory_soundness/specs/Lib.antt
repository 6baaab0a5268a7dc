pub mod Passes
pub mod Kept
pub mod Refines
pub mod Reports
