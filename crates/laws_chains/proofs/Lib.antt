-- From the set-up of lifetimes and the state at a vote or an offer, by what its rule says of the parent, to a network.
pub mod Setups
pub mod StatesAtVotes
pub mod StatesAtOffers
pub mod ParentsOfVotes
pub mod Quorums
pub mod Parents
pub mod ChainsToGenesis
pub mod Offers
pub mod ViewsAhead
pub mod UnofferedVerdicts
pub mod EarlyLeaders
pub mod OtherParents
