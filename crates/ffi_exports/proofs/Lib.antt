pub mod Nulls
pub mod Steps
pub mod Values
