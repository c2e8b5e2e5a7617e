-- inside a term the view before, at its start the highest explicit one or a handoff
use Rattle.laws_voter.proofs.Parents.{preferred_stands}
use Rattle.laws_voter.proofs.laws.preferred_parent_stands.Goals as goal

pub returns : goal.returns
returns g c same elect x v p d = preferred_stands same elect x v p d
