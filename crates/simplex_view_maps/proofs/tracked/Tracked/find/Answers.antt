-- How the contract of `find` follows: each probe halves the rest, and the place stays in it.
use Rattle.std.proofs.Common.{sym, arith}
use Rattle.std.proofs.lemmas.Bool.{ltb-true, ltb-false}
use Rattle.simplex_types.proofs.Digits.{halve_once}
use Rattle.simplex_view_maps.proofs.Maps.{not_halved, len-below-le-len}
use Rattle.simplex_view_maps.proofs.tracked.Tracked.find.Goals as goal

pub loop-low-init : goal.loop-low-init
loop-low-init g c = record {
  at_least = omega arith;
  at_most = rw c.len-high.ensures (len-below-le-len _ _);
  in_range = omega (arith, c.len-high.ensures);
  counted = omega (arith, c.len-high.ensures);
  halved = not_halved _ _ (omega (arith, c.len-high.ensures));
}

pub loop-low-preserved-then-is_below : goal.loop-low-preserved-then-is_below
loop-low-preserved-then-is_below g c =
    let before = c.loop-low.invariant in
    let below = ltb-true _ _ (sym c.if-is_below.ensures.answer) in
    let counted = c.is_below.ensures.counted in
    record {
      at_least = omega (arith, below);
      at_most = before.at_most;
      in_range = before.in_range;
      counted = omega (arith, before.counted, counted, c.loop-low-test.true);
      halved = rw counted (halve_once _ _ _ _ (omega (arith, c.loop-low-test.true)) (omega arith) before.halved);
    }

pub loop-low-preserved : goal.loop-low-preserved
loop-low-preserved g c =
    let before = c.loop-low.invariant in
    let above = ltb-false _ _ (sym c.if-is_below.ensures.answer) in
    let counted = c.is_below.ensures.counted in
    record {
      at_least = before.at_least;
      at_most = above;
      in_range = omega (arith, before.in_range, c.loop-low-test.true);
      counted = omega (arith, before.counted, counted, c.loop-low-test.true);
      halved = rw counted (halve_once _ _ _ _ (omega (arith, c.loop-low-test.true)) (omega arith) before.halved);
    }
