pub mod Reading
pub mod Indexing
