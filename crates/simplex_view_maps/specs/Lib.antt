pub mod Tracked
pub mod Rows
pub mod ByTerm
pub mod Runs
pub mod TermLists
