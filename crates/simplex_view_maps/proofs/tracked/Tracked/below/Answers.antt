-- How the contract of `below` follows: the place of the view is the number of entries below it, so those up to there
-- are the ones below.
use Rattle.std.proofs.Common.{◌∙◌, arith}
use Rattle.simplex_view_maps.proofs.Maps.{entries_of_made, place_within, below_read}
use Rattle.simplex_view_maps.proofs.Unboxed.{same_length}
use Rattle.simplex_view_maps.proofs.tracked.Tracked.below.Goals as goal

pub within-requires : goal.within-requires
within-requires g c =
    let within = place_within _ _ _ _ (entries_of_made _ _ c.self.view_is c.self.invariant) c.find-end.ensures.place in
    (omega arith, rw same_length within)

pub returns : goal.returns
returns g c = c.within.ensures ∙ below_read _ _ _ _ (entries_of_made _ _ c.self.view_is c.self.invariant)
    c.find-end.ensures.place
