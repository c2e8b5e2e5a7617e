-- How the contract of `nullified_handoffs_are_left` follows: the network of four and its continuation are computed.
use Rattle.std.proofs.Common.{refl}
use Rattle.laws_safety.proofs.networks.HandoffNetwork.{taken_over_network, taken_over_goes_on, leader_voted, none_notarized}
use Rattle.laws_safety.proofs.laws.continuations.nullified_handoffs_are_left.Goals as goal

pub returns-clause-network : goal.returns-clause-network
returns-clause-network c = taken_over_network

pub returns-clause-few : goal.returns-clause-few
returns-clause-few c = (refl, refl)

pub returns-clause-voted : goal.returns-clause-voted
returns-clause-voted c = leader_voted

pub returns-clause-stuck : goal.returns-clause-stuck
returns-clause-stuck c = none_notarized

pub returns-clause-continues : goal.returns-clause-continues
returns-clause-continues c = taken_over_goes_on
