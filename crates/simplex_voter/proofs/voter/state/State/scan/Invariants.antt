-- The loop of `scan`: the views below the next one are passed, and none had an answer.
use Rattle.std.proofs.Common.{◌≡◌, ◌+◌, ◌-◌, ◌<◌, ◌≤◌, ◌^◌, true}
use Rattle.std.specs.Prelude.{min}
use Rattle.std.specs.Ordering.{nat_cmp}
use Rattle.std.specs.FinMap.Entries.{is_sorted}
use Rattle.simplex_types.specs.Terms.{next_term_start}
use Rattle.simplex_voter.proofs.VerifyScan.{IsScanned}
use Rattle.simplex_voter.proofs.voter.state.State.scan.Given as goal

abbrev pub invariant-loop-view : goal.invariant-loop-view
invariant-loop-view g l = record {
  above : l.fn.self.current ≤ l.from;
  within : l.from ≤ l.last + 1;
  room : l.last + 1 < 2 ^ 64;
  last : l.last ≡ next_term_start l.fn.self.terms.term_length l.fn.self.current;
  near : l.near ≡ min (l.fn.self.current + l.fn.self.terms.optimistic_views) (2 ^ 64 - 1);
  ordered : is_sorted nat_cmp l.fn.self.rounds ≡ true;
  passed : IsScanned g.D.PartialEq.eq g.L.Elector.elect l.fn.self l.self l.from;
}

abbrev pub decreases-loop-view : goal.decreases-loop-view
decreases-loop-view g l = l.last + 1 - l.from
