pub mod Contains
pub mod Polls
pub mod VoteCounts
pub mod StoredVotes
pub mod Given
pub mod Good
pub mod KeptVotes
pub mod Within
