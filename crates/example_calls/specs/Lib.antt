pub mod FinalizeVotes
