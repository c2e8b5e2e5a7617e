-- How the contract of `first_uncovered` follows: after a covered view the next one that may be uncovered starts a term,
-- so no gap is skipped.
use Rattle.std.proofs.Common.{sym, arith}
use Rattle.simplex_view_maps.proofs.Gaps.{gapless_on, next_above, lt_yes}
use Rattle.simplex_view_maps.proofs.term_table.TermTable.first_uncovered.Goals as goal

pub loop-before-preserved : goal.loop-before-preserved
loop-before-preserved g c =
    let above = c.loop-before.invariant.above in
    let below = lt_yes c.loop-before.cursor c.args.before c.loop-before-test.ensures in
    let end = c.end_of_term-cursor.ensures.end in
    let up = next_above c.args.self.now.term_length c.loop-before.cursor c.end_of_term-cursor.ensures.positive
    (omega (arith, above)) in
    let on = gapless_on c.args.self.now c.args.after c.loop-before.cursor above c.loop-before.invariant.covered
    (sym c.if-not-has_covering.ensures) in
    record {
      above = grind (arith, above, below, end, up);
      covered = λ w low high. on w low (grind (arith, high, end));
    }
