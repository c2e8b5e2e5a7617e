-- The loop of `candidates_of`: both lists, followed by those of the rest, are the result.
use Rattle.std.proofs.Common.{length}
use Rattle.simplex_voter.specs.Certification.{offered_of, fetched_of}
use Rattle.simplex_voter.proofs.Offers.{Gathers}
use Rattle.simplex_voter.proofs.voter.state.State.candidates_of.Given as goal

abbrev pub invariant-loop-entry : goal.invariant-loop-entry
invariant-loop-entry g l = record {
  offers : Gathers (λ e. offered_of g.D.PartialEq.eq g.L.Elector.elect l.self e.0) l.fn.views l.offers.items l.views;
  fetches : Gathers (λ e. fetched_of g.L.Elector.elect l.self e.0) l.fn.views l.fetches.items l.views;
}

abbrev pub decreases-loop-entry : goal.decreases-loop-entry
decreases-loop-entry g l = length l.views
