-- The loop of `scan`: what is fetched so far, which with what is missing from the anchor on is all that is missing.
use Rattle.std.proofs.Common.{◌≡◌, ◌-◌, ◌≤◌, ◌++◌}
use Rattle.simplex_resolver.specs.Facts.{uncovered_anchors, end_of_scan}
use Rattle.simplex_resolver.specs.Steps.{missing_fetches}
use Rattle.simplex_resolver.proofs.resolver.scan.scan.Given as goal

abbrev pub invariant-loop-term_length : goal.invariant-loop-term_length
invariant-loop-term_length l = record {
  low : 1 ≤ l.anchor;
  end : end_of_scan l.term_length l.anchor l.current ≡ end_of_scan l.term_length l.fn.first l.current;
  fetched : l.effects.items ++ missing_fetches l.cause (uncovered_anchors l.nullifications l.anchor l.current)
      ≡ l.initial.effects.items ++ missing_fetches l.cause (uncovered_anchors l.nullifications l.fn.first l.current);
}

abbrev pub decreases-loop-term_length : goal.decreases-loop-term_length
decreases-loop-term_length l = l.current - l.anchor
