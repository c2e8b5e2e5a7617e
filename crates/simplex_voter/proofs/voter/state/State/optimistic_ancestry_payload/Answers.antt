-- How the contract of `optimistic_ancestry_payload` follows: the view's payload is decided where the walk is, and each
-- end of it decides.
use Rattle.std.proofs.Common.{Some, ap, ◌∙◌, subst, arith}
use Rattle.simplex_voter.proofs.Chained.{reach, reach-below, WalkHasReached, nothing, begins, none_below, unbound, continues, ends}
use Rattle.simplex_voter.proofs.voter.state.State.optimistic_ancestry_payload.Goals as goal

pub returns-in_err-top-clause-payload : goal.returns-in_err-top-clause-payload
returns-in_err-top-clause-payload g c = c.from_residual.ensures
    ∙ nothing g.D.PartialEq.eq g.L.Elector.elect c.args.self.now c.args.view c.in_err-top.ensures.basis

pub loop-basis-init : goal.loop-basis-init
loop-basis-init g c = begins g.D.PartialEq.eq g.L.Elector.elect c.args.self.now c.args.view c.in_ok-top.top
    c.in_ok-top.ensures.basis

pub returns-in_err-below-clause-payload : goal.returns-in_err-below-clause-payload
returns-in_err-below-clause-payload g c =
    let stands = subst (WalkHasReached g.D.PartialEq.eq g.L.Elector.elect c.args.self.now c.args.view c.in_ok-top.top)
    c.in-Vote.is c.loop-basis.invariant in
    c.from_residual-in_err-below.ensures ∙ none_below g.D.PartialEq.eq g.L.Elector.elect c.args.self.now c.args.view
    c.in_ok-top.top c.in-Vote.proposal c.in-Vote.bound stands c.in_err-below.ensures.basis

pub returns-then-not-holds-clause-payload : goal.returns-then-not-holds-clause-payload
returns-then-not-holds-clause-payload g c =
    let stands = subst (WalkHasReached g.D.PartialEq.eq g.L.Elector.elect c.args.self.now c.args.view c.in_ok-top.top)
    c.in-Vote.is c.loop-basis.invariant in
    unbound g.D.PartialEq.eq g.L.Elector.elect c.args.self.now c.args.view c.in_ok-top.top c.in-Vote.proposal
    c.in-Vote.bound stands c.in_ok-below.below c.in_ok-below.ensures.basis c.payload.result c.payload.ensures
    c.if-not-holds.ensures

pub loop-basis-smaller : goal.loop-basis-smaller
loop-basis-smaller g c =
    let low = reach-below g.L.Elector.elect c.args.self.now c.in-Vote.proposal.parent c.in_ok-below.below
    c.in_ok-below.ensures.basis in
    let at = ap reach c.in-Vote.is in
    omega (arith, low, at)

pub loop-basis-preserved : goal.loop-basis-preserved
loop-basis-preserved g c =
    let stands = subst (WalkHasReached g.D.PartialEq.eq g.L.Elector.elect c.args.self.now c.args.view c.in_ok-top.top)
    c.in-Vote.is c.loop-basis.invariant in
    continues g.D.PartialEq.eq g.L.Elector.elect c.args.self.now c.args.view c.in_ok-top.top c.in-Vote.proposal
    c.in-Vote.bound stands c.in_ok-below.below c.in_ok-below.ensures.basis c.payload.result c.payload.ensures
    c.if-not-holds.ensures

pub returns-clause-payload : goal.returns-clause-payload
returns-clause-payload g c =
    let stands = subst (WalkHasReached g.D.PartialEq.eq g.L.Elector.elect c.args.self.now c.args.view c.in_ok-top.top)
    c.in_default.is c.loop-basis.invariant in
    ap Some c.payload-2.ensures ∙ ends g.D.PartialEq.eq g.L.Elector.elect c.args.self.now c.args.view c.in_ok-top.top
    c.in_default.field-0 stands
