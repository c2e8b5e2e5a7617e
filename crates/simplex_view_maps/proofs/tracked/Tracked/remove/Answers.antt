-- How the contract of `remove` follows: a removal at the place of a view that is there is one from the map, and of an
-- absent one nothing is removed.
use Rattle.std.proofs.Common.{sym, arith}
use Rattle.simplex_view_maps.proofs.Maps.{entries_of_made, value_at, removed, remove_absent, made_from_entries, sorted_from_entries}
use Rattle.simplex_view_maps.proofs.Unboxed.{unboxed-remove, same_length}
use Rattle.simplex_view_maps.proofs.tracked.Tracked.remove.Goals as goal

pub remove-requires : goal.remove-requires
remove-requires g c =
    let same = entries_of_made _ _ c.self.view_is c.self.invariant in
    let within = (value_at _ _ _ _ same c.find-place.ensures.place (sym c.if-has_view_at.ensures)).0 in
    omega (arith, within, same_length c.self.inside.entries)

pub invariant_of-self : goal.invariant_of-self
invariant_of-self g c =
    let same = entries_of_made _ _ c.self.view_is c.self.invariant in
    sorted_from_entries _ _ (removed _ _ _ _ _ same c.find-place.ensures.place (sym c.if-has_view_at.ensures)
    (unboxed-remove c.self.inside.entries c.remove.new.self c.find-place.result.0 c.remove.ensures))

pub returns-then-has_view_at : goal.returns-then-has_view_at
returns-then-has_view_at g c =
    let same = entries_of_made _ _ c.self.view_is c.self.invariant in
    made_from_entries _ _ (removed _ _ _ _ _ same c.find-place.ensures.place (sym c.if-has_view_at.ensures)
    (unboxed-remove c.self.inside.entries c.remove.new.self c.find-place.result.0 c.remove.ensures))

pub returns-else-has_view_at : goal.returns-else-has_view_at
returns-else-has_view_at g c = remove_absent _ _ (sym c.if-has_view_at.ensures)
