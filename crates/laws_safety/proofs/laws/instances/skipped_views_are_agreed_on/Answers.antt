-- How the contract of `skipped_views_are_agreed_on` follows: the network of five, and who of it signed what, are
-- computed.
use Rattle.std.proofs.Common.{refl}
use Rattle.laws_safety.proofs.networks.Scripts.{five_network, five_notarize_one, five_nullify_two, five_finalize_three}
use Rattle.laws_safety.proofs.laws.instances.skipped_views_are_agreed_on.Goals as goal

pub returns-clause-network : goal.returns-clause-network
returns-clause-network c = five_network

pub returns-clause-few : goal.returns-clause-few
returns-clause-few c = (refl, refl)

pub returns-clause-does : goal.returns-clause-does
returns-clause-does c me = refl

pub returns-clause-backs : goal.returns-clause-backs
returns-clause-backs c = (five_notarize_one, five_nullify_two, five_finalize_three)
