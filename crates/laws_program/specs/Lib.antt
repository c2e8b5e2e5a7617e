pub mod VoterExecutions
pub mod ResolverFetches
