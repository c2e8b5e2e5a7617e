-- How the contract of `contradictions_are_answered_for` follows: the network of four, and who of it signed what, are
-- computed.
use Rattle.std.proofs.Common.{refl, inl, inr, arith}
use Rattle.laws_safety.proofs.networks.Scripts.{overrun_network, overrun_nullified, overrun_finalized, misled_by_final, known_accept, known_nullified, known_finalized}
use Rattle.laws_safety.proofs.laws.instances.contradictions_are_answered_for.Goals as goal

pub returns-clause-network : goal.returns-clause-network
returns-clause-network c = overrun_network

pub returns-clause-many : goal.returns-clause-many
returns-clause-many c = (refl, refl)

pub returns-clause-contradict : goal.returns-clause-contradict
returns-clause-contradict c = (refl, refl, overrun_nullified, overrun_finalized)

pub returns-clause-misled : goal.returns-clause-misled
returns-clause-misled c = misled_by_final

pub returns-clause-evidence : goal.returns-clause-evidence
returns-clause-evidence c = (refl, refl, refl)

pub returns-clause-known : goal.returns-clause-known
returns-clause-known c = (known_accept, known_nullified, known_finalized)

pub returns-clause-suspects : goal.returns-clause-suspects
returns-clause-suspects c = inr (inr (inl (((0, omega arith, refl), (2, omega arith, refl), inl refl), inl (tt, tt))))

pub returns-clause-guilty : goal.returns-clause-guilty
returns-clause-guilty c = ((0, omega arith, refl), (2, omega arith, refl), inl refl)
