-- The worked networks: the actions of their members are computed, and are those that the rules require.
pub mod ComputedRuns
pub mod Scripts
pub mod Continuations
pub mod ScenarioSteps
pub mod DividedNetwork
pub mod MissingNetwork
pub mod HandoffNetwork
pub mod DifferentLives
pub mod AheadNetwork
pub mod Rivals
pub mod PlainNetwork
