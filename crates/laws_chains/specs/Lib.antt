pub mod Parents
pub mod Chains
pub mod Offers
pub mod ViewsAhead
pub mod UnofferedVerdicts
pub mod EarlyLeaders
pub mod OtherParents
