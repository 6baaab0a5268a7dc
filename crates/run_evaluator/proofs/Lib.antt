pub mod Unbound
mod Maps
mod Operands
mod Nodes
mod OperatorCalls
mod Leaving
mod ByKind
mod Ranges
mod Switches
mod Weights
mod Invoked
mod Words
mod Known
mod LeftSides
mod MethodSteps
