-- How the contract of `gaps_are_closed` follows: the network of four and its continuation are computed.
use Rattle.std.proofs.Common.{refl}
use Rattle.laws_safety.proofs.networks.MissingNetwork.{lacking_network, lacking_goes_on, none_skipped, none_notarized}
use Rattle.laws_safety.proofs.laws.continuations.gaps_are_closed.Goals as goal

pub returns-clause-network : goal.returns-clause-network
returns-clause-network c = lacking_network

pub returns-clause-few : goal.returns-clause-few
returns-clause-few c = (refl, refl)

pub returns-clause-lacks : goal.returns-clause-lacks
returns-clause-lacks c = (none_skipped, none_notarized)

pub returns-clause-continues : goal.returns-clause-continues
returns-clause-continues c = lacking_goes_on
