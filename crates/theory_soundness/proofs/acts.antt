pub mod Within
pub mod Chained
pub mod Looped
pub mod Trees
pub mod Unbroken
pub mod SurelyUnit
pub mod Still
pub mod StillTrees
