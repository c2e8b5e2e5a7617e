pub mod QuorumVotes
pub mod CallTraces
pub mod Stops
pub mod Hosts
pub mod Networks
pub mod LoneHosts
