-- How the contract of `visit` follows: each standing of a proposal changes the view as the definition of the scan does.
use Rattle.simplex_voter.proofs.VerifyScan.{passed_by, left_lacks, left_ready}
use Rattle.simplex_voter.proofs.voter.state.State.visit.Goals as goal

pub returns-in_err-leader-clause-left : goal.returns-in_err-leader-clause-left
returns-in_err-leader-clause-left g c = passed_by g.D.PartialEq.eq g.L.Elector.elect c.args.self.now c.args.view
    c.in_ok-round.round.now c.in_ok-round.ensures.round c.in_err-leader.ensures

pub returns-in-Lacks-clause-left : goal.returns-in-Lacks-clause-left
returns-in-Lacks-clause-left g c = left_lacks g.D.PartialEq.eq g.L.Elector.elect c.args.self.now c.args.view
    c.in_ok-round.round.now c.in_ok-round.ensures.round c.standing.result c.standing.ensures c.note_request.new.self
    c.in-Lacks.wanted c.in-Lacks.kind c.in-Lacks.is c.note_request.ensures

pub returns-in-Ready-clause-left : goal.returns-in-Ready-clause-left
returns-in-Ready-clause-left g c = left_ready g.D.PartialEq.eq g.L.Elector.elect c.args.self.now c.args.view
    c.in_ok-round.round.now c.in_ok-round.ensures.round c.standing.result c.standing.ensures c.give_out.new.self
    c.in-Ready.payload c.in-Ready.is c.give_out.ensures
