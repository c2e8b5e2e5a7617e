pub mod TrackedCertificates
pub mod EngineRuns
pub mod Broadcasts
pub mod AwaitedVerdicts
pub mod Meetings
pub mod RoundInstances
