-- more nullifications only add entries that may cover
use Rattle.simplex_voter.proofs.Gaps.{covering_stays}
use Rattle.laws_voter.proofs.laws.covering_stays.Goals as goal

pub returns : goal.returns
returns g c = covering_stays
