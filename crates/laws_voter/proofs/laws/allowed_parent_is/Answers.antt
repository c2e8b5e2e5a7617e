-- the test and its parts
use Rattle.laws_voter.proofs.Parents.{allowed_stands, standing_allowed}
use Rattle.laws_voter.proofs.laws.allowed_parent_is.Goals as goal

pub returns : goal.returns
returns g c same elect x v p d =
    (allowed_stands same elect x v p d, λ stands. standing_allowed same elect x v p d stands.0 stands.1)
