-- each claim, from the start on
use Rattle.laws_safety.proofs.own_records.HighVotes.{own_high_voted}
use Rattle.laws_safety.proofs.own_records.Runs.{own_record_outside, own_parent_accepted, own_verdicts_follow, own_restart_excused, own_run_excused}
use Rattle.laws_safety.proofs.laws.own_record.own_record_is_taken.Goals as goal

pub returns-clause-record : goal.returns-clause-record
returns-clause-record g c term_length start steps replies end begins fresh run next copy found by_view refused =
    own_record_outside g.D.PartialEq.eq g.met.D.Digest.equal_is_same g.met.D.Digest.same_is_equal g.L.Elector.elect
    term_length start begins steps fresh replies end next copy found run by_view refused

pub returns-clause-parent : goal.returns-clause-parent
returns-clause-parent g c term_length start steps replies end begins fresh run next copy by_view refused =
    own_parent_accepted g.D.PartialEq.eq g.met.D.Digest.equal_is_same g.met.D.Digest.same_is_equal g.L.Elector.elect
    term_length start begins steps fresh replies end next copy run by_view refused

pub returns-clause-high : goal.returns-clause-high
returns-clause-high g c term_length start steps replies end begins fresh accepted run next copy by_view refused =
    own_high_voted g.D.PartialEq.eq g.met.D.Digest.equal_is_same g.met.D.Digest.same_is_equal g.L.Elector.elect
    term_length start begins accepted steps replies end next copy fresh run by_view refused

pub returns-clause-notarized : goal.returns-clause-notarized
returns-clause-notarized g c term_length start steps replies end begins fresh run =
    own_verdicts_follow g.D.PartialEq.eq g.met.D.Digest.equal_is_same g.met.D.Digest.same_is_equal g.L.Elector.elect
    term_length start begins steps fresh replies end run

pub returns-clause-restart : goal.returns-clause-restart
returns-clause-restart g c term_length start steps replies end begins fresh run left next found refused =
    own_restart_excused g.D.PartialEq.eq g.met.D.Digest.equal_is_same g.met.D.Digest.same_is_equal g.L.Elector.elect
    term_length start begins steps fresh replies end left next found run refused

pub returns-clause-run : goal.returns-clause-run
returns-clause-run g c term_length start steps found begins fresh refused =
    own_run_excused g.D.PartialEq.eq g.met.D.Digest.equal_is_same g.met.D.Digest.same_is_equal g.L.Elector.elect
    term_length start begins steps fresh found refused
