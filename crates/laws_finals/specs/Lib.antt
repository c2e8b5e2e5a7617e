pub mod HostMembers
pub mod HostStarts
pub mod HostLifetimes
pub mod HostChains
pub mod LoneStarts
