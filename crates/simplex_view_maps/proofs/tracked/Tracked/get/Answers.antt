-- How the contract of `get` follows: if the view is at its place, the entry there is its value.
use Rattle.std.proofs.Common.{sym, arith}
use Rattle.simplex_view_maps.proofs.Maps.{entries_of_made, value_at}
use Rattle.simplex_view_maps.proofs.Unboxed.{unboxed_at, same_length, opened}
use Rattle.simplex_view_maps.proofs.tracked.Tracked.get.Goals as goal

pub index-requires : goal.index-requires
index-requires g c =
    let same = entries_of_made _ _ c.self.view_is c.self.invariant in
    let within = (value_at _ _ _ _ same c.find-place.ensures.place (sym c.if-has_view_at.ensures)).0 in
    omega (arith, within, same_length c.self.inside.entries)

pub returns-then-has_view_at : goal.returns-then-has_view_at
returns-then-has_view_at g c =
    let rows = c.self.inside.entries in
    let same = entries_of_made _ _ c.self.view_is c.self.invariant in
    let there = value_at _ _ _ _ same c.find-place.ensures.place (sym c.if-has_view_at.ensures) in
    let read = unboxed_at rows _ c.index.result.now (omega (arith, there.0, same_length rows)) c.index.ensures.entry in
    rw c.deref.ensures (there.1 (opened c.index.result.now) read)
