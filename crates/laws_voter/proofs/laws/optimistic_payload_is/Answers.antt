-- as many steps as views are tracked are enough
use Rattle.simplex_voter.proofs.Payloads.{optimistic_ancestry_payload-is}
use Rattle.laws_voter.proofs.laws.optimistic_payload_is.Goals as goal

pub returns : goal.returns
returns g c same elect x v = optimistic_ancestry_payload-is same elect x v
