pub mod ReceivedCalls
pub mod TimeoutCauses
pub mod Examples
pub mod Votes
pub mod AskedFetches
pub mod Offers
pub mod PollsEnd
