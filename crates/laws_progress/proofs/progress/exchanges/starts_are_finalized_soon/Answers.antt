-- by the plan of the honest members, after they met; and among f leaders and one more an honest one is
use Rattle.laws_progress.proofs.networks.InTurn.{finalized_in_turn}
use Rattle.laws_progress.proofs.networks.Soon.{starts_are_finalized_soon}
use Rattle.laws_progress.proofs.progress.exchanges.starts_are_finalized_soon.Goals as goal

pub returns-clause-soon : goal.returns-clause-soon
returns-clause-soon g c = starts_are_finalized_soon _ g.D.PartialEq.eq g.met.D.Digest.equal_is_same
    g.met.D.Digest.same_is_equal g.L.Elector.elect

pub returns-clause-in_turn : goal.returns-clause-in_turn
returns-clause-in_turn g c = finalized_in_turn _ g.D.PartialEq.eq g.met.D.Digest.equal_is_same
    g.met.D.Digest.same_is_equal g.L.Elector.elect
