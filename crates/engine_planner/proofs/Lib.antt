pub mod Blocks
pub mod PlanStates
pub mod PlannedWork
pub mod Causes
pub mod GivenWork
pub mod FetchRequests
pub mod AskedFetches
pub mod AskedSteps
pub mod TakenSteps
mod AcceptedCertificates
pub mod Consequences
pub mod ViewChanges
pub mod StepSelection
