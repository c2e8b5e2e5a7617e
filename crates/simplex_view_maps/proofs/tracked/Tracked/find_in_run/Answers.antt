-- How the contract of `find_in_run` follows: as many entries are below a view as views from the first entry's, if no
-- view is missing up to the last
-- one's.
use Rattle.std.proofs.Common.{◌≡◌, ◌+◌, ◌<◌, length, refl, arith}
use Rattle.std.specs.FinMap as map
use Rattle.simplex_view_maps.proofs.Maps.{entries_of_made, length_of_made, len-below-le-len}
use Rattle.simplex_view_maps.proofs.Unboxed.{same_length, from_first, from_last}
use Rattle.simplex_view_maps.proofs.tracked.Tracked.find_in_run.Goals as goal

pub index-requires : goal.index-requires
index-requires g c =
    let count = length_of_made _ _ c.self.view_is c.self.invariant in
    omega (arith, count, same_length c.self.inside.entries, c.len-count.ensures, c.in_ok-end.ensures)

pub index-requires-2 : goal.index-requires-2
index-requires-2 g c =
    let count = length_of_made _ _ c.self.view_is c.self.invariant in
    omega (arith, count, same_length c.self.inside.entries, c.len-count.ensures, c.in_ok-end.ensures)

pub returns-clause-place : goal.returns-clause-place
returns-clause-place g c =
    let same = entries_of_made _ _ c.self.view_is c.self.invariant in
    let rows = same_length c.self.inside.entries in
    let count = length_of_made _ _ c.self.view_is c.self.invariant in
    let some : 0 < length c.self.inside.entries =
    omega (arith, count, rows, c.len-count.ensures, c.in_ok-end.ensures) in
    let within : c.in_ok-end.end < length c.self.inside.entries =
    omega (arith, count, rows, c.len-count.ensures, c.in_ok-end.ensures) in
    let end : c.in_ok-end.end + 1 ≡ map.len c.args.self.now = omega (arith, c.len-count.ensures, c.in_ok-end.ensures) in
    let first = from_first c.args.self.now c.self.inside.entries same 0 c.index.result.now some c.index.ensures.entry
    c.args.view refl in
    let last = from_last c.args.self.now c.self.inside.entries same c.in_ok-end.end c.index-2.result.now within
    c.index-2.ensures.entry c.args.view end in
    let all = len-below-le-len c.args.self.now c.args.view in
    let run = c.if-saturating_sub-end.false in
    omega (
      arith,
      first,
      last,
      all,
      end,
      run,
      c.saturating_sub.ensures,
      c.get.ensures,
      c.get-2.ensures,
      c.distance-distance.ensures.distance,
      c.min.ensures,
      c.len-count.ensures,
    )
