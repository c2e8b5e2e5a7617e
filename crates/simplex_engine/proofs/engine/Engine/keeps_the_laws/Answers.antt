-- That the current view of a member has a timeout, by what the member has done.
use Rattle.simplex_engine.proofs.Timeouts.{done_times_out}
use Rattle.simplex_engine.proofs.engine.Engine.keeps_the_laws.Goals as goal

pub returns-clause-times_out : goal.returns-clause-times_out
returns-clause-times_out g c term_length i all done =
    done_times_out g.D.PartialEq.eq g.met.D.Digest.equal_is_same g.L.Elector.elect term_length i all
    c.args.self.now.core.member.facts done
