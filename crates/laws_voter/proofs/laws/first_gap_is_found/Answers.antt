-- the lowest of the views where a gap may begin is the first gap
use Rattle.simplex_voter.proofs.Gaps.{first_unnullified_view-is}
use Rattle.laws_voter.proofs.laws.first_gap_is_found.Goals as goal

pub returns : goal.returns
returns g c x p v some = first_unnullified_view-is x p v some
