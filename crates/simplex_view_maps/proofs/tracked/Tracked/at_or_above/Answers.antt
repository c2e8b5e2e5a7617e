-- How the contract of `at_or_above` follows: the place of the view is the number of entries below it, so those from
-- there on are the ones at or above.
use Rattle.std.proofs.Common.{◌∙◌, arith}
use Rattle.simplex_view_maps.proofs.Maps.{entries_of_made, place_within, above_read}
use Rattle.simplex_view_maps.proofs.Unboxed.{same_length}
use Rattle.simplex_view_maps.proofs.tracked.Tracked.at_or_above.Goals as goal

pub within-requires : goal.within-requires
within-requires g c =
    let within = place_within _ _ _ _ (entries_of_made _ _ c.self.view_is c.self.invariant) c.find-start.ensures.place
    in
    (rw (c.len.ensures, same_length) within, omega (arith, c.len.ensures))

pub returns : goal.returns
returns g c =
    let same = entries_of_made _ _ c.self.view_is c.self.invariant in
    c.within.ensures ∙ above_read _ _ _ _ _ same c.find-start.ensures.place
    (c.len.ensures ∙ same_length c.self.inside.entries)
