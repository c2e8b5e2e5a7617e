-- How the contract of `terms_are_agreed_on` follows: the network of four, and who of it signed what, are computed.
use Rattle.std.proofs.Common.{refl}
use Rattle.laws_safety.proofs.networks.Scripts.{four_network, finalized_one, finalized_two}
use Rattle.laws_safety.proofs.laws.instances.terms_are_agreed_on.Goals as goal

pub returns-clause-network : goal.returns-clause-network
returns-clause-network c = four_network

pub returns-clause-few : goal.returns-clause-few
returns-clause-few c = (refl, refl)

pub returns-clause-covered : goal.returns-clause-covered
returns-clause-covered c = refl

pub returns-clause-does : goal.returns-clause-does
returns-clause-does c = refl

pub returns-clause-finalizes : goal.returns-clause-finalizes
returns-clause-finalizes c = (finalized_one, finalized_two)
