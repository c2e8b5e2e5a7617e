-- a view between lies below the middle one, above it, or is it
use Rattle.simplex_voter.proofs.Gaps.{gapless_joins}
use Rattle.laws_voter.proofs.laws.gapless_joins.Goals as goal

pub returns : goal.returns
returns g c x p v w = gapless_joins x p v w
