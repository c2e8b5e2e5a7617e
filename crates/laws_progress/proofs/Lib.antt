-- From one state to a network: states, runs, networks, and networks that are worked out.
pub mod states
pub mod runs
pub mod networks
pub mod instances
