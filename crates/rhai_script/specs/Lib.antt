pub mod Contents
pub mod Renamed
pub mod Script
