pub mod Deliveries
pub mod Rounds
pub mod Finality
