-- the test and its parts
use Rattle.simplex_voter.proofs.Rules.{nullify_parts, nullify_whole}
use Rattle.laws_voter.proofs.laws.may_nullify_is.Goals as goal

pub returns : goal.returns
returns g c x v = (nullify_parts x v, nullify_whole x v)
