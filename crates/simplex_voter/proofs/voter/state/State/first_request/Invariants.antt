-- The loop of `first_request`: the first of the rest is the first.
use Rattle.std.proofs.Common.{◌≡◌, slice_get, length}
use Rattle.std.specs.List.{filter_map}
use Rattle.simplex_voter.specs.ProposalRequests.{request_in}
use Rattle.simplex_voter.proofs.voter.state.State.first_request.Given as goal

abbrev pub invariant-loop-entry : goal.invariant-loop-entry
invariant-loop-entry g l =
    slice_get (filter_map (request_in g.D.PartialEq.eq g.L.Elector.elect l.self) l.fn.entries) 0
    ≡ slice_get (filter_map (request_in g.D.PartialEq.eq g.L.Elector.elect l.self) l.entries) 0

abbrev pub decreases-loop-entry : goal.decreases-loop-entry
decreases-loop-entry g l = length l.entries
