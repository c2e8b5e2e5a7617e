-- How the contract of `new` follows: no rows are the empty map.
use Rattle.std.proofs.Common.{ap}
use Rattle.simplex_view_maps.specs.Tracked.{unboxed}
use Rattle.simplex_view_maps.proofs.Maps.{made_empty}
use Rattle.simplex_view_maps.proofs.tracked.Tracked.new.Goals as goal

pub returns : goal.returns
returns g c = made_empty _ (ap unboxed c.new.ensures)
