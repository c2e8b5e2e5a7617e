pub mod EngineCalls
pub mod Processes
pub mod HostNetworks
pub mod HostAgreement
pub mod HostVotes
pub mod HostInstances
