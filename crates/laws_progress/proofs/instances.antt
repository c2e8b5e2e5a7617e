-- Networks that are worked out, in which the premises hold or fail.
pub mod FreshNetwork
pub mod AbandonedFirstView
pub mod Worked
pub mod DividedNetwork
pub mod MissingNetwork
pub mod HandoffNetwork
pub mod InTurn
pub mod OverrunNetwork
