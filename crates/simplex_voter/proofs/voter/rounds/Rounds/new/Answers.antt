-- How the contract of `new` follows: no view is tracked in an empty map, so the invariant holds of all that are.
use Rattle.std.proofs.Common.{refl}
use Rattle.simplex_voter.proofs.RoundsKept.{entries_empty}
use Rattle.simplex_voter.proofs.Changed.{none_kept}
use Rattle.simplex_voter.proofs.voter.rounds.Rounds.new.Goals as goal

pub invariant_of-result : goal.invariant_of-result
invariant_of-result g c = none_kept _ (entries_empty _ c.new.ensures)

pub returns : goal.returns
returns g c = rw (entries_empty _ c.new.ensures) refl
