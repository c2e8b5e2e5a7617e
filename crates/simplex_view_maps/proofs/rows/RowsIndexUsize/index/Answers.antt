-- How the contract of `index` follows: the places of all rows fit, so those of the first row and of the rest do.
use Rattle.std.proofs.Common.{ap, length, arith}
use Rattle.simplex_view_maps.proofs.rows.RowsIndexUsize.index.Goals as goal

pub returns-then-place-first-clause-fits : goal.returns-then-place-first-clause-fits
returns-then-place-first-clause-fits g c =
    let long = ap length c.self.view_is in
    omega (arith, long, c.self.invariant.counted, c.self.invariant.fits)

pub returns-else-place-first-clause-fits : goal.returns-else-place-first-clause-fits
returns-else-place-first-clause-fits g c =
    let long = ap length c.self.view_is in
    omega (arith, long, c.self.invariant.counted, c.self.invariant.fits)
