-- Worked scripts, computed from the definitions.
pub mod Scripts
pub mod Votes
pub mod Terms
pub mod Parents
pub mod Windows
pub mod Moments
pub mod Hostile
pub mod Definitions
pub mod Configurations
pub mod Mixed
