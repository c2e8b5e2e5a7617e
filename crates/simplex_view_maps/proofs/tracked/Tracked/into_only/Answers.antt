-- How the contract of `into_only` follows: the first of one entry is the only one.
use Rattle.std.proofs.Common.{length, ap, arith}
use Rattle.simplex_view_maps.proofs.Maps.{entries_of_made}
use Rattle.simplex_view_maps.proofs.Unboxed.{only_unboxed, counted}
use Rattle.simplex_view_maps.proofs.tracked.Tracked.into_only.Goals as goal

pub unreachable-requires : goal.unreachable-requires
unreachable-requires g c =
    let same = entries_of_made _ _ c.self.view_is c.self.invariant in
    absurd (omega (arith, c.requires, counted _ _ same, ap length c.in_default.ensures.0))

pub returns : goal.returns
returns g c =
    let same = entries_of_made _ _ c.self.view_is c.self.invariant in
    rw c.into_inner.ensures (only_unboxed _ _ _ _ same c.requires c.in-Some.ensures)
