-- The lemmas of the laws, by their purpose; each law's own answers are at its path.
pub mod lists
pub mod frames
pub mod lives
pub mod votes
pub mod records
pub mod own_records
pub mod agreement
pub mod executions
pub mod networks
