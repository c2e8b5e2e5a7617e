-- One state: what each call makes of it on the way to a finalization.
pub mod AtTermStart
pub mod Words
pub mod Calls
pub mod Scan
pub mod LeaderCalls
pub mod Sequences
pub mod BeforeTermStart
pub mod Highest
pub mod SkippedViews
pub mod AbandonedTerms
