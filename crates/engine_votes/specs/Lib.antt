pub mod Subjects
pub mod Polls
pub mod VoteCounts
pub mod StoredVotes
