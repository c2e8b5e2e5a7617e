-- How the contract of `len` follows: the rows have as many entries as the map has views.
use Rattle.std.proofs.Common.{◌∙◌}
use Rattle.simplex_view_maps.proofs.Maps.{length_of_made}
use Rattle.simplex_view_maps.proofs.Unboxed.{same_length}
use Rattle.simplex_view_maps.proofs.tracked.Tracked.len.Goals as goal

pub returns : goal.returns
returns g c = c.len.ensures ∙ same_length c.self.inside.entries ∙ length_of_made _ _ c.self.view_is c.self.invariant
