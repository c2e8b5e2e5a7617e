-- The loop of `has_refused`: the result for the rest is the result.
use Rattle.std.proofs.Common.{◌≡◌, length}
use Rattle.std.specs.List.{list_any}
use Rattle.simplex_voter.specs.Rounds.{is_refused_above}
use Rattle.simplex_voter.proofs.voter.ranges.has_refused.Given as goal

abbrev pub invariant-loop-entry : goal.invariant-loop-entry
invariant-loop-entry g l = list_any (λ e. is_refused_above l.rounds l.above e.0) l.fn.views ≡ list_any
    (λ e. is_refused_above l.rounds l.above e.0) l.views

abbrev pub decreases-loop-entry : goal.decreases-loop-entry
decreases-loop-entry g l = length l.views
