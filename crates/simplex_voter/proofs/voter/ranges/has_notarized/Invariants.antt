-- The loop of `has_notarized`: the result for the rest is the result.
use Rattle.std.proofs.Common.{◌≡◌, length}
use Rattle.std.specs.List.{list_any}
use Rattle.simplex_voter.specs.Windows.{is_notarized}
use Rattle.simplex_voter.proofs.voter.ranges.has_notarized.Given as goal

abbrev pub invariant-loop-entry : goal.invariant-loop-entry
invariant-loop-entry g l = list_any (λ e. is_notarized e.1) l.fn.entries ≡ list_any (λ e. is_notarized e.1) l.entries

abbrev pub decreases-loop-entry : goal.decreases-loop-entry
decreases-loop-entry g l = length l.entries
