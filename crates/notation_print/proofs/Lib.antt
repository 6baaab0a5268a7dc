pub mod Guards
pub mod NameLists
pub mod TableLists
