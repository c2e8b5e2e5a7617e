-- by what each event brings, over a member's lifetimes
use Rattle.laws_progress.proofs.runs.Explicit.{explicit_led, verdict_led}
use Rattle.laws_progress.proofs.runs.LedLives.{state_led, nullified_led, judged_are_notarized}
use Rattle.laws_progress.proofs.runs.Ordered.{vote_ordered}
use Rattle.laws_progress.proofs.progress.view_causes.views_are_led_to.Goals as goal

pub returns-clause-current : goal.returns-clause-current
returns-clause-current g c term_length i s ran x lives =
    (state_led g.D.PartialEq.eq g.met.D.Digest.equal_is_same g.L.Elector.elect term_length i s ran x lives).reached

pub returns-clause-nullified : goal.returns-clause-nullified
returns-clause-nullified g c term_length i s ran round h =
    nullified_led g.D.PartialEq.eq g.met.D.Digest.equal_is_same g.L.Elector.elect term_length i s ran round h

pub returns-clause-ordered : goal.returns-clause-ordered
returns-clause-ordered g c term_length i s ran before round signs =
    vote_ordered g.D.PartialEq.eq g.met.D.Digest.equal_is_same g.L.Elector.elect term_length i s ran before round signs

pub returns-clause-explicit : goal.returns-clause-explicit
returns-clause-explicit g c term_length i s ran x lives v payload some is =
    explicit_led term_length _ _ x (state_led g.D.PartialEq.eq g.met.D.Digest.equal_is_same g.L.Elector.elect
    term_length i s ran x lives) v payload some is

pub returns-clause-verdicts : goal.returns-clause-verdicts
returns-clause-verdicts g c term_length i s ran x lives v success is =
    verdict_led term_length _ _ x
    (state_led g.D.PartialEq.eq g.met.D.Digest.equal_is_same g.L.Elector.elect term_length i s ran x lives) v success is

pub returns-clause-judged : goal.returns-clause-judged
returns-clause-judged g c term_length i s ran success p h =
    judged_are_notarized g.D.PartialEq.eq g.met.D.Digest.equal_is_same g.L.Elector.elect term_length i s ran success p h
