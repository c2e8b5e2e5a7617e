-- The loop of `views_below`: the views so far and those that are left.
use Rattle.std.proofs.Common.{◌≡◌, ◌++◌, length, map as map_list}
use Rattle.std.specs.FinMap as map
use Rattle.simplex_view_maps.specs.Tracked.{below}
use Rattle.simplex_view_maps.proofs.tracked.Tracked.views_below.Given as goal

abbrev pub invariant-loop-entry : goal.invariant-loop-entry
invariant-loop-entry g l = l.views.items ++ map_list (λ e. e.0) l.rest ≡ map.keys (below l.self l.fn.view)

abbrev pub decreases-loop-entry : goal.decreases-loop-entry
decreases-loop-entry g l = length l.rest
