-- The loop of `first_uncovered`: the views up to the cursor are covered.
use Rattle.std.proofs.Common.{◌<◌, ◌-◌}
use Rattle.simplex_view_maps.specs.ByTerm.{Gapless}
use Rattle.simplex_view_maps.proofs.term_table.TermTable.first_uncovered.Given as goal

abbrev pub invariant-loop-before : goal.invariant-loop-before
invariant-loop-before g l = record {
  above : l.fn.after < l.cursor;
  covered : Gapless l.self l.fn.after l.cursor;
}

abbrev pub decreases-loop-before : goal.decreases-loop-before
decreases-loop-before g l = l.before - l.cursor
