pub mod Statements
pub mod Trees
pub mod BuiltinScripts
pub mod ProgramHost
pub mod Output
pub mod Words
