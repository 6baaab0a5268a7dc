pub mod Standing
pub mod Lasting
pub mod WellFormed
pub mod OperatorCalls
pub mod Kept
