-- The loop of `first_due_of`: the first of the rest is the first.
use Rattle.std.proofs.Common.{◌≡◌, length}
use Rattle.std.specs.List.{find}
use Rattle.simplex_voter.specs.DueVotes.{is_due, AreRoundsOf}
use Rattle.simplex_voter.proofs.voter.state.State.first_due_of.Given as goal

abbrev pub invariant-loop-entry : goal.invariant-loop-entry
invariant-loop-entry g l = record {
  rounds : AreRoundsOf l.self l.entries;
  rest : find (λ e. is_due g.D.PartialEq.eq g.L.Elector.elect l.self e.0) l.fn.entries ≡ find
      (λ e. is_due g.D.PartialEq.eq g.L.Elector.elect l.self e.0) l.entries;
}

abbrev pub decreases-loop-entry : goal.decreases-loop-entry
decreases-loop-entry g l = length l.entries
