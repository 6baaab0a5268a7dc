pub mod MarkedTables
mod Outcomes
mod Taken
mod Tests
