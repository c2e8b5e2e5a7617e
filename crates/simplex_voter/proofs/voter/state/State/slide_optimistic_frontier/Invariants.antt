-- The loop of `slide_optimistic_frontier`: the remaining views lead from the current facts to the whole slide.
use Rattle.std.proofs.Common.{◌≡◌, ◌+◌, ◌-◌, ◌≤◌}
use Rattle.std.specs.List.{fold, range_with_len}
use Rattle.simplex_voter.specs.Setup.{HasSameSetup}
use Rattle.simplex_voter.specs.Leaders.{with_leader_of, with_window_leaders}
use Rattle.simplex_voter.proofs.voter.state.State.slide_optimistic_frontier.Given as goal

abbrev pub invariant-loop-last : goal.invariant-loop-last
invariant-loop-last g l = record {
  reached : l.from ≤ l.last;
  left : fold (λ y w. with_leader_of y (w - 1) w) l.self
      (range_with_len (l.from + 1) (l.last - l.from)) ≡ with_window_leaders l.fn.self l.fn.view;
  setup : HasSameSetup l.fn.self l.self;
}

abbrev pub decreases-loop-last : goal.decreases-loop-last
decreases-loop-last g l = l.last - l.from
