pub mod Kept
pub mod Naming
pub mod Passing
pub mod Shapes
