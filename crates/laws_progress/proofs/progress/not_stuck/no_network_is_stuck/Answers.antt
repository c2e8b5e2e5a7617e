-- they meet, and members in one view can finalize
use Rattle.laws_progress.proofs.networks.Continuations.{no_network_is_stuck}
use Rattle.laws_progress.proofs.networks.Met.{networks_meet}
use Rattle.laws_progress.proofs.progress.not_stuck.no_network_is_stuck.Goals as goal

pub returns-clause-meet : goal.returns-clause-meet
returns-clause-meet g c = networks_meet _ g.D.PartialEq.eq g.met.D.Digest.equal_is_same g.L.Elector.elect

pub returns-clause-continues : goal.returns-clause-continues
returns-clause-continues g c = no_network_is_stuck _ g.D.PartialEq.eq g.met.D.Digest.equal_is_same
    g.met.D.Digest.same_is_equal g.L.Elector.elect
