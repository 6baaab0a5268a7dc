pub mod Cases
pub mod OtherKinds
pub mod ItemLists
pub mod Ranges
