-- inside a term by the definition, at its start by the proposal
use Rattle.simplex_voter.proofs.Rules.{required_before}
use Rattle.laws_voter.proofs.laws.required_parent_is_before.Goals as goal

pub returns : goal.returns
returns g c elect x v q p = required_before elect x v q p
