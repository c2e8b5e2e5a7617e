pub mod Proposal
pub mod Digits
pub mod Covers
pub mod EncodingLaw
