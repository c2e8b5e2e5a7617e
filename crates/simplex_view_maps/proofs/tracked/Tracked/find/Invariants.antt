-- The loop of `find`: the place is among those that are left, and each probe has halved them.
use Rattle.std.proofs.Common.{◌+◌, ◌-◌, ◌≤◌}
use Rattle.std.specs.FinMap as map
use Rattle.simplex_view_maps.specs.Tracked.{below}
use Rattle.simplex_types.proofs.Digits.{IsLeft}
use Rattle.simplex_view_maps.proofs.tracked.Tracked.find.Given as goal

abbrev pub invariant-loop-low : goal.invariant-loop-low
invariant-loop-low g l =
    let place = map.len (below l.self l.view) in
    record {
      at_least : l.low ≤ place;
      at_most : place ≤ l.high;
      in_range : l.high ≤ map.len l.self;
      counted : l.probes + (l.high - l.low) ≤ map.len l.self;
      halved : IsLeft l.probes (l.high - l.low) (map.len l.self);
    }

abbrev pub decreases-loop-low : goal.decreases-loop-low
decreases-loop-low g l = l.high - l.low
