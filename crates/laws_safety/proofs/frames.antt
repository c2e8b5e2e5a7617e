-- For the laws by steps: the invariants of each event, and those of a run by them.
pub mod Fresh
pub mod InOrder
pub mod NoLowerViews
pub mod Untracked
pub mod CallsOnWork
pub mod CallsMake
pub mod EachRound
pub mod Sound
pub mod RunsKeep
pub mod BuiltProposals
