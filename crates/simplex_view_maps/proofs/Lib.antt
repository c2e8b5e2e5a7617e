pub mod RisingEntries
pub mod Maps
pub mod Unboxed
pub mod Terms
pub mod TermLists
pub mod Gaps
pub mod Runs
pub mod CutRows
