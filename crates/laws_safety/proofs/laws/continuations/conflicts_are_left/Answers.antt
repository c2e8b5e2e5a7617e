-- How the contract of `conflicts_are_left` follows: the network of four and its continuation are computed.
use Rattle.std.proofs.Common.{refl}
use Rattle.laws_safety.proofs.networks.DividedNetwork.{divided_network, divided_goes_on, none_notarized}
use Rattle.laws_safety.proofs.laws.continuations.conflicts_are_left.Goals as goal

pub returns-clause-network : goal.returns-clause-network
returns-clause-network c = divided_network

pub returns-clause-few : goal.returns-clause-few
returns-clause-few c = (refl, refl)

pub returns-clause-divided : goal.returns-clause-divided
returns-clause-divided c = none_notarized

pub returns-clause-continues : goal.returns-clause-continues
returns-clause-continues c = divided_goes_on
