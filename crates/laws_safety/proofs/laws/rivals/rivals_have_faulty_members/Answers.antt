-- How the contract of `rivals_have_faulty_members` follows: the network of four, and who of it signed both proposals,
-- are computed.
use Rattle.std.proofs.Common.{refl, inl, inr, arith}
use Rattle.simplex_types.specs.declared.types.messages.Subject.TheVariants.{Notarize}
use Rattle.laws_safety.specs.DividedNetwork.{rival}
use Rattle.laws_safety.specs.Rivals.{known_of_two_proposals}
use Rattle.laws_safety.specs.ScenarioSteps.{one}
use Rattle.laws_safety.proofs.networks.Rivals.{two_proposals_network, are_two, one_backed, rival_backed, known_two_accept, certified_so}
use Rattle.laws_safety.proofs.laws.rivals.rivals_have_faulty_members.Goals as goal

pub returns-clause-network : goal.returns-clause-network
returns-clause-network c = two_proposals_network

pub returns-clause-many : goal.returns-clause-many
returns-clause-many c = (refl, refl)

pub returns-clause-contradict : goal.returns-clause-contradict
returns-clause-contradict c = ((refl, are_two), refl, one_backed, rival_backed)

pub returns-clause-evidence : goal.returns-clause-evidence
returns-clause-evidence c = (refl, are_two)

pub returns-clause-known : goal.returns-clause-known
returns-clause-known c = (
  known_two_accept,
  certified_so known_of_two_proposals (Notarize one) refl,
  certified_so known_of_two_proposals (Notarize rival) refl,
)

pub returns-clause-suspects : goal.returns-clause-suspects
returns-clause-suspects c =
    inr (inr (inl (((0, omega arith, refl), (1, omega arith, refl), (refl, are_two)), inl (tt, tt))))

pub returns-clause-guilty : goal.returns-clause-guilty
returns-clause-guilty c = ((0, omega arith, refl), (1, omega arith, refl), (refl, are_two))
