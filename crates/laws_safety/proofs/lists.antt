-- For all laws over runs: the places of elements in lists.
pub mod Splits
pub mod Signed
pub mod Filters
pub mod Ordered
