-- the test and its parts
use Rattle.simplex_voter.proofs.Rules.{notarize_parts, notarize_whole}
use Rattle.laws_voter.proofs.laws.may_notarize_is.Goals as goal

pub returns : goal.returns
returns g c same elect x v = (notarize_parts same elect x v, notarize_whole same elect x v)
