-- For the heights of the views that an engine asks for.
mod Resolvers
mod Records
mod Replies
mod Lacks
mod Calls
mod AtHand
mod Steps
pub mod Engines
