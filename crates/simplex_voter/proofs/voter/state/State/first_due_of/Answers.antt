-- How the contract of `first_due_of` follows: the first view where something is due is the result, and the others are
-- skipped.
use Rattle.simplex_voter.specs.DueVotes.{is_due}
use Rattle.simplex_voter.proofs.DueVotes.{passes_later, rounds_split}
use Rattle.simplex_voter.proofs.voter.state.State.first_due_of.Goals as goal

pub is_due-requires-clause-round : goal.is_due-requires-clause-round
is_due-requires-clause-round g c =
    (rounds_split c.args.self.now _ _ _ c.in-Some.ensures c.loop-entry.invariant.rounds).0

pub loop-entry-preserved : goal.loop-entry-preserved
loop-entry-preserved g c = record {
  rounds = (rounds_split c.args.self.now _ _ _ c.in-Some.ensures c.loop-entry.invariant.rounds).1;
  rest = passes_later (λ e. is_due g.D.PartialEq.eq g.L.Elector.elect c.args.self.now e.0) _ _
      c.loop-entry.invariant.rest _ _ c.in-Some.ensures (c.if-is_due.ensures);
}
