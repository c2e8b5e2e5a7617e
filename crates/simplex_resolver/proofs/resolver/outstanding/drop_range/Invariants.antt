-- the views outside the range stay
use Rattle.std.proofs.Common.{◌≡◌, ℕ, ◌&&◌, nat_le, false, length}
use Rattle.simplex_resolver.specs.Repair.{has}
use Rattle.simplex_resolver.proofs.resolver.outstanding.drop_range.Given as goal

abbrev pub invariant-loop-view : goal.invariant-loop-view
invariant-loop-view l = (v : ℕ) → (nat_le l.start v && nat_le v l.end) ≡ false
    → has l.views.keys v ≡ has l.initial.views.keys v

abbrev pub decreases-loop-view : goal.decreases-loop-view
decreases-loop-view l = length l.views.keys
