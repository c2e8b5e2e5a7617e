-- One member: what its run leads to, and how it continues.
pub mod Owned
pub mod Ends
pub mod Starts
pub mod Onward
pub mod Members
pub mod Brought
pub mod Led
pub mod LedCalls
pub mod LedLives
pub mod Ordered
pub mod LedEvents
pub mod Arrivals
pub mod Explicit
