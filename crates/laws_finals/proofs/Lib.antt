-- From the processes of hosts to the members of a network, from parent to parent there, and back to the hosts.
pub mod CertifiedParents
pub mod MembersOfHosts
pub mod NetworkOfMembers
pub mod Starts
pub mod Lifetimes
pub mod MembersByLifetimes
pub mod Chains
pub mod LoneStarts
