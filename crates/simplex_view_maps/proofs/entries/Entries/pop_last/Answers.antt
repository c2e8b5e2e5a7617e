-- How the contract of `pop_last` follows: the last place of the range is the last of its entries, unboxed.
use Rattle.std.proofs.Common.{◌∙◌, ◌<◌, ◌≤◌, ◌-◌, length, sym, arith}
use Rattle.simplex_view_maps.specs.Tracked.{unboxed}
use Rattle.simplex_view_maps.proofs.Unboxed.{unboxed_at, same_length, opened, last_of_range}
use Rattle.simplex_view_maps.proofs.entries.Entries.pop_last.Goals as goal

pub returns : goal.returns
returns g c =
    let rows = c.self.inside.rows.now in
    let long = same_length rows in
    let some : c.self.inside.start < c.self.inside.end = omega (arith, c.self.invariant.0, c.if-self.false) in
    let within : c.self.inside.end ≤ length (unboxed rows) = omega (arith, long, c.self.invariant.1) in
    let read = unboxed_at rows (c.self.inside.end - 1) c.index-entry.result.now
    (omega (arith, some, c.self.invariant.1)) c.index-entry.ensures.entry in
    sym c.self.view_is ∙ rw c.deref.ensures (last_of_range (unboxed rows) c.self.inside.start c.self.inside.end
    (opened c.index-entry.result.now) some within read)
