-- How the contract of `skipped_finalizations_have_faulty_members` follows: the network of four, and who of it skipped
-- the finalized view, are
-- computed.
use Rattle.std.proofs.Common.{refl, inl, inr, arith}
use Rattle.simplex_types.specs.declared.types.messages.Subject.TheVariants.{Notarize, Finalize}
use Rattle.laws_safety.specs.Rivals.{past_two, known_of_skipped}
use Rattle.laws_safety.specs.ScenarioSteps.{two}
use Rattle.laws_safety.proofs.networks.Rivals.{skipped_over_network, past_two_backed, two_finalized, known_skipped_accept, certified_so, misled_by_nullification}
use Rattle.laws_safety.proofs.laws.rivals.skipped_finalizations_have_faulty_members.Goals as goal

pub returns-clause-network : goal.returns-clause-network
returns-clause-network c = skipped_over_network

pub returns-clause-many : goal.returns-clause-many
returns-clause-many c = (refl, refl)

pub returns-clause-contradict : goal.returns-clause-contradict
returns-clause-contradict c = (inr (omega arith, omega arith), refl, past_two_backed, two_finalized)

pub returns-clause-misled : goal.returns-clause-misled
returns-clause-misled c = misled_by_nullification

pub returns-clause-evidence : goal.returns-clause-evidence
returns-clause-evidence c = (refl, refl, refl)

pub returns-clause-known : goal.returns-clause-known
returns-clause-known c = (
  known_skipped_accept,
  certified_so known_of_skipped (Notarize past_two) refl,
  certified_so known_of_skipped (Finalize two) refl,
)

pub returns-clause-suspects : goal.returns-clause-suspects
returns-clause-suspects c = inr (inr (inl (((3, omega arith, refl), (2, omega arith, refl), inl refl), inl (tt, tt))))

pub returns-clause-guilty : goal.returns-clause-guilty
returns-clause-guilty c = ((3, omega arith, refl), (2, omega arith, refl), inl refl)
