-- From the voting rules of each member to the agreement of a network, and who is accountable if it fails.
pub mod VoteOrder
pub mod Lawful
pub mod Quorums
pub mod TwoVotes
pub mod Claims
pub mod Exactly
pub mod Accountability
