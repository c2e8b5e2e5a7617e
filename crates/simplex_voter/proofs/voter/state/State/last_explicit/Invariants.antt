-- The loop of `last_explicit`: the last one is among the rest.
use Rattle.std.proofs.Common.{◌≡◌, None, length}
use Rattle.std.specs.List.{filter_map, last_or}
use Rattle.simplex_voter.specs.Parents.{explicit_at}
use Rattle.simplex_voter.proofs.voter.state.State.last_explicit.Given as goal

abbrev pub invariant-loop-entry : goal.invariant-loop-entry
invariant-loop-entry g l = last_or None (filter_map (explicit_at l.self) l.fn.entries) ≡ last_or None
    (filter_map (explicit_at l.self) l.entries)

abbrev pub decreases-loop-entry : goal.decreases-loop-entry
decreases-loop-entry g l = length l.entries
