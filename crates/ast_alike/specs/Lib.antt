pub mod Closures
pub mod Dressed
pub mod Gaps
pub mod Ordering
pub mod Scripts
