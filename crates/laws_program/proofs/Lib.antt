-- Transcripts as executions of members, and as the calls of a resolver.
pub mod VoterExecutions
pub mod ResolverFetches
