-- the test and its parts
use Rattle.simplex_voter.proofs.Rules.{finalize_parts, finalize_whole}
use Rattle.laws_voter.proofs.laws.may_finalize_is.Goals as goal

pub returns : goal.returns
returns g c elect x v = (finalize_parts elect x v, finalize_whole elect x v)
