-- by the calls of each member, and since the honest ones alone make each certificate
use Rattle.laws_progress.proofs.networks.FreshStarts.{fresh_starts_are_finalized}
use Rattle.laws_progress.proofs.networks.CommonViews.{who_meets_goes_on}
use Rattle.laws_progress.proofs.networks.Passed.{together_they_go_on}
use Rattle.laws_progress.proofs.progress.starts.fresh_starts_are_finalized.Goals as goal

pub returns-clause-finalizes : goal.returns-clause-finalizes
returns-clause-finalizes g c = fresh_starts_are_finalized _ g.D.PartialEq.eq g.met.D.Digest.equal_is_same
    g.met.D.Digest.same_is_equal g.L.Elector.elect

pub returns-clause-continues : goal.returns-clause-continues
returns-clause-continues g c = together_they_go_on _ g.D.PartialEq.eq g.met.D.Digest.equal_is_same
    g.met.D.Digest.same_is_equal g.L.Elector.elect

pub returns-clause-meets : goal.returns-clause-meets
returns-clause-meets g c = who_meets_goes_on _ g.D.PartialEq.eq g.met.D.Digest.equal_is_same
    g.met.D.Digest.same_is_equal g.L.Elector.elect
