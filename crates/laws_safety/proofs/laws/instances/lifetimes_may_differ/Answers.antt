-- How the contract of `lifetimes_may_differ` follows: the runs of the member's lifetimes are computed.
use Rattle.std.proofs.Common.{refl}
use Rattle.laws_safety.proofs.networks.DifferentLives.{changing_ran, changing_network}
use Rattle.laws_safety.proofs.laws.instances.lifetimes_may_differ.Goals as goal

pub returns-clause-ran : goal.returns-clause-ran
returns-clause-ran c = changing_ran

pub returns-clause-network : goal.returns-clause-network
returns-clause-network c = changing_network

pub returns-clause-does : goal.returns-clause-does
returns-clause-does c = refl
