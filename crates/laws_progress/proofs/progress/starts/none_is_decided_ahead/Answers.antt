-- by what the run shows of its end
use Rattle.laws_progress.proofs.runs.Ends.{none_decided}
use Rattle.laws_progress.proofs.progress.starts.none_is_decided_ahead.Goals as goal

pub returns : goal.returns
returns g c term_length i s ran x lives v from =
    none_decided g.D.PartialEq.eq g.met.D.Digest.equal_is_same g.L.Elector.elect term_length i s ran x lives v from
