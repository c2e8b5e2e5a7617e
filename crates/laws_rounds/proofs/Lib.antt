mod TrackedViews
pub mod LifetimeCalls
mod DeliveredInputs
mod RoundSteps
pub mod LastProcesses
mod Spread
mod TurnedAway
mod FinalizedViews
mod NullifiedViews
mod NotarizedViews
