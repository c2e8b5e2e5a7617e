-- How the contract of `between` follows: the places of the two views bound the entries between them, and rise as the
-- views do.
use Rattle.std.proofs.Common.{◌∙◌}
use Rattle.simplex_view_maps.proofs.Maps.{entries_of_made, place_within, places_rise, between_read}
use Rattle.simplex_view_maps.proofs.Unboxed.{same_length}
use Rattle.simplex_view_maps.proofs.tracked.Tracked.between.Goals as goal

pub within-requires : goal.within-requires
within-requires g c =
    let within = place_within _ _ _ _ (entries_of_made _ _ c.self.view_is c.self.invariant)
    c.find-end.ensures.place in (
      places_rise c.args.self.now c.args.from c.args.to _ _ c.requires c.find-start.ensures.place
          c.find-end.ensures.place,
      rw same_length within,
    )

pub returns : goal.returns
returns g c =
    let same = entries_of_made _ _ c.self.view_is c.self.invariant in
    c.within.ensures ∙ between_read c.args.self.now c.args.from c.args.to _ _ _ c.requires same
    c.find-start.ensures.place c.find-end.ensures.place
