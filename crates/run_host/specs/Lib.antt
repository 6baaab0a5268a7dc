pub mod Entries
pub mod Host
pub mod Print
pub mod Report
