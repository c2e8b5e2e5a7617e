-- The loop of `first_deadline`: the first of the rest is the first.
use Rattle.std.proofs.Common.{◌≡◌, filter, slice_get, length}
use Rattle.simplex_voter.specs.Timeouts.{is_entered_between}
use Rattle.simplex_voter.proofs.voter.timeouts.first_deadline.Given as goal

abbrev pub invariant-loop-entry : goal.invariant-loop-entry
invariant-loop-entry g l = slice_get (filter (is_entered_between l.finalized l.current) l.fn.entries) 0 ≡ slice_get
    (filter (is_entered_between l.finalized l.current) l.entries) 0

abbrev pub decreases-loop-entry : goal.decreases-loop-entry
decreases-loop-entry g l = length l.entries
