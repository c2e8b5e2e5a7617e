-- How the contract of `insert` follows: an entry at the place of its view keeps the entries sorted, and is the view's
-- value in the map.
use Rattle.std.proofs.Common.{sym, arith}
use Rattle.simplex_view_maps.proofs.Maps.{entries_of_made, place_within, inserted, sorted_from_entries, made_from_entries}
use Rattle.simplex_view_maps.proofs.Unboxed.{unboxed-insert, same_length}
use Rattle.simplex_view_maps.proofs.tracked.Tracked.insert.Goals as goal

pub insert-requires : goal.insert-requires
insert-requires g c =
    let within = place_within _ _ _ _ (entries_of_made _ _ c.self.view_is c.self.invariant) c.find-place.ensures.place
    in
    omega (arith, within, same_length c.self.inside.entries)

pub invariant_of-self-2 : goal.invariant_of-self-2
invariant_of-self-2 g c =
    let same = entries_of_made _ _ c.self.view_is c.self.invariant in
    let put = unboxed-insert _ _ _ _ _ _ c.in_ok-boxed.ensures.holds c.in_default.ensures.items in
    sorted_from_entries _ _ (inserted _ _ _ _ _ _ same c.find-place.ensures.place (sym c.if-has_view_at.ensures) put)

pub returns-clause-after : goal.returns-clause-after
returns-clause-after g c =
    let same = entries_of_made _ _ c.self.view_is c.self.invariant in
    let put = unboxed-insert _ _ _ _ _ _ c.in_ok-boxed.ensures.holds c.in_default.ensures.items in
    made_from_entries _ _ (inserted _ _ _ _ _ _ same c.find-place.ensures.place (sym c.if-has_view_at.ensures) put)
