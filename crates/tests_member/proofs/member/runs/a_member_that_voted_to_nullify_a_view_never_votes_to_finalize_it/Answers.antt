-- the one restart starts as `start` says
use Rattle.tests_member.proofs.member.runs.a_member_that_voted_to_nullify_a_view_never_votes_to_finalize_it.Goals as goal

pub run-requires-clause-restarted : goal.run-requires-clause-restarted
run-requires-clause-restarted g c = rw c.in_ok-steps.ensures.items
    (tt, (tt, (tt, (tt, (tt, (c.in_ok-start.ensures, (tt, (tt, tt))))))))
