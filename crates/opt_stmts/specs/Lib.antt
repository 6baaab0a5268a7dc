pub mod Assigning
pub mod ChoiceSteps
pub mod Firing
pub mod Flows
pub mod SettledAssignments
pub mod SettledChoices
pub mod SettledStatements
pub mod WritingWalk
