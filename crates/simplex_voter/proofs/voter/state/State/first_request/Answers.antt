-- How the contract of `first_request` follows: the first view with a request is the result, and those without one are
-- skipped.
use Rattle.simplex_voter.specs.ProposalRequests.{request_in}
use Rattle.simplex_voter.proofs.Scans.{given_here, given_next, given_nowhere}
use Rattle.simplex_voter.proofs.voter.state.State.first_request.Goals as goal

pub returns-then-is_some : goal.returns-then-is_some
returns-then-is_some g c = given_here (request_in g.D.PartialEq.eq g.L.Elector.elect c.args.self.now) _ _
    c.loop-entry.invariant _ _ c.in-Some.ensures _ c.request_in-request.ensures c.if-is_some.ensures

pub loop-entry-preserved : goal.loop-entry-preserved
loop-entry-preserved g c = given_next (request_in g.D.PartialEq.eq g.L.Elector.elect c.args.self.now) _ _
    c.loop-entry.invariant _ _ c.in-Some.ensures _ c.request_in-request.ensures c.if-is_some.ensures

pub returns : goal.returns
returns g c = given_nowhere (request_in g.D.PartialEq.eq g.L.Elector.elect c.args.self.now) _ _ c.loop-entry.invariant
    c.in_default.ensures.0
