-- How the contract of `views_ahead_are_agreed_on` follows: the network of four, and who of it signed what, are
-- computed.
use Rattle.std.proofs.Common.{refl}
use Rattle.laws_safety.proofs.networks.AheadNetwork.{ahead_network, ahead_finalized}
use Rattle.laws_safety.proofs.laws.instances.views_ahead_are_agreed_on.Goals as goal

pub returns-clause-network : goal.returns-clause-network
returns-clause-network c = ahead_network

pub returns-clause-few : goal.returns-clause-few
returns-clause-few c = (refl, refl)

pub returns-clause-does : goal.returns-clause-does
returns-clause-does c = (refl, refl)

pub returns-clause-finalizes : goal.returns-clause-finalizes
returns-clause-finalizes c = ahead_finalized
