-- A network: its honest members continue together.
pub mod Followed
pub mod Replicas
pub mod Continued
pub mod FreshStarts
pub mod Together
pub mod Passed
pub mod Joined
pub mod CommonViews
pub mod Tops
pub mod Covers
pub mod Chosen
pub mod Met
pub mod Continuations
pub mod Parts
pub mod Plan
pub mod Soon
pub mod InTurn
