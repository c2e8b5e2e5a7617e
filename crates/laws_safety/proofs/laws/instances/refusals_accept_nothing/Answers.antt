-- How the contract of `refusals_accept_nothing` follows: the run of refused calls is computed.
use Rattle.std.proofs.Common.{refl}
use Rattle.laws_safety.proofs.networks.DifferentLives.{refusing_ran, refusing_network}
use Rattle.laws_safety.proofs.laws.instances.refusals_accept_nothing.Goals as goal

pub returns-clause-ran : goal.returns-clause-ran
returns-clause-ran c = refusing_ran

pub returns-clause-network : goal.returns-clause-network
returns-clause-network c = refusing_network

pub returns-clause-does : goal.returns-clause-does
returns-clause-does c = refl
