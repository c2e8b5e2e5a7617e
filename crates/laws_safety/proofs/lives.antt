-- The laws of each lifetime, and of each state of a run.
pub mod WithinLives
pub mod RunOrder
pub mod Conflicts
pub mod ReturnedCertificates
pub mod AsAsked
pub mod Examples
pub mod WithinRuns
pub mod ViewTimeouts
pub mod UncertifiedViews
pub mod Polls
pub mod LeftViews
pub mod LeftByEntries
pub mod Gapless
pub mod Progress
