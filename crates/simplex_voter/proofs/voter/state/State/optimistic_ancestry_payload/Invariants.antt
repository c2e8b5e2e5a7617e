-- The loop of `optimistic_ancestry_payload`: the view's payload is decided where the walk is.
use Rattle.simplex_voter.proofs.Chained.{reach, WalkHasReached}
use Rattle.simplex_voter.proofs.voter.state.State.optimistic_ancestry_payload.Given as goal

abbrev pub invariant-loop-basis : goal.invariant-loop-basis
invariant-loop-basis g l = WalkHasReached g.D.PartialEq.eq g.L.Elector.elect l.fn.self l.fn.view l.top l.basis

abbrev pub decreases-loop-basis : goal.decreases-loop-basis
decreases-loop-basis g l = reach l.basis
