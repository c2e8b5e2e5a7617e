-- How the contract of `next_request` follows: the views near the current one and the next term's start are all that may
-- have a request.
use Rattle.std.proofs.Common.{◌<◌, slice_get, ap, ◌∙◌, arith}
use Rattle.std.specs.List.{filter_map}
use Rattle.simplex_view_maps.proofs.Gaps.{lt_yes}
use Rattle.simplex_voter.specs.ProposalRequests.{views_within, request_in}
use Rattle.simplex_voter.proofs.Ahead.{near_given, start_given}
use Rattle.simplex_voter.proofs.BuildRequests.{answer_given, request_ready}
use Rattle.simplex_voter.proofs.voter.state.State.next_request.Goals as goal

pub views_within-requires : goal.views_within-requires
views_within-requires g c =
    let current = ap (λ x. x.current) c.self.view_is in
    let short : c.last_near-near.result < c.last_ahead-last.result = lt_yes _ _ c.if-lt.ensures in (
      grind (arith, current, c.last_near-near.ensures, c.last_ahead-last.ensures.room, short),
      omega (arith, short, c.last_ahead-last.ensures.room),
    )

pub returns-in-Some-clause-answer : goal.returns-in-Some-clause-answer
returns-in-Some-clause-answer g c =
    let current = ap (λ x. x.current) c.self.view_is in
    let near = c.views_within.ensures.within
    ∙ (λ i. views_within c.args.self.now (current i) c.last_near-near.result) in
    near_given g.D.PartialEq.eq g.L.Elector.elect c.args.self.now c.views_within.ensures.ordered _ _
    c.last_near-near.ensures c.last_ahead-last.ensures.last c.last_ahead-last.ensures.room.1
    (lt_yes _ _ c.if-lt.ensures) c.in-Some.request
    (c.in-Some.ensures
    ∙ ap (λ es. slice_get (filter_map (request_in g.D.PartialEq.eq g.L.Elector.elect c.args.self.now) es) 0) near)

pub returns-in-Some-clause-ready : goal.returns-in-Some-clause-ready
returns-in-Some-clause-ready g c =
    let current = ap (λ x. x.current) c.self.view_is in
    let near = c.views_within.ensures.within
    ∙ (λ i. views_within c.args.self.now (current i) c.last_near-near.result) in
    request_ready g.D.PartialEq.eq g.L.Elector.elect c.args.self.now c.views_within.ensures.ordered _
    (near_given g.D.PartialEq.eq g.L.Elector.elect c.args.self.now c.views_within.ensures.ordered _ _
    c.last_near-near.ensures c.last_ahead-last.ensures.last c.last_ahead-last.ensures.room.1
    (lt_yes _ _ c.if-lt.ensures) c.in-Some.request
    (c.in-Some.ensures
    ∙ ap (λ es. slice_get (filter_map (request_in g.D.PartialEq.eq g.L.Elector.elect c.args.self.now) es) 0) near))

pub returns-in-None-clause-answer : goal.returns-in-None-clause-answer
returns-in-None-clause-answer g c =
    let current = ap (λ x. x.current) c.self.view_is in
    let near = c.views_within.ensures.within
    ∙ (λ i. views_within c.args.self.now (current i) c.last_near-near.result) in
    start_given g.D.PartialEq.eq g.L.Elector.elect c.args.self.now c.views_within.ensures.ordered _ _
    c.last_near-near.ensures c.last_ahead-last.ensures.last c.last_ahead-last.ensures.room.1
    (lt_yes _ _ c.if-lt.ensures) _
    (c.in-None.ensures
    ∙ ap (λ es. slice_get (filter_map (request_in g.D.PartialEq.eq g.L.Elector.elect c.args.self.now) es) 0) near)
    (c.first_request-in-None.ensures ∙ ap (λ es.
    slice_get (filter_map (request_in g.D.PartialEq.eq g.L.Elector.elect c.args.self.now) es) 0)
    c.views_within-in-None.ensures.within)

pub returns-in-None-clause-ready : goal.returns-in-None-clause-ready
returns-in-None-clause-ready g c =
    let current = ap (λ x. x.current) c.self.view_is in
    let near = c.views_within.ensures.within
    ∙ (λ i. views_within c.args.self.now (current i) c.last_near-near.result) in
    request_ready g.D.PartialEq.eq g.L.Elector.elect c.args.self.now c.views_within.ensures.ordered _
    (start_given g.D.PartialEq.eq g.L.Elector.elect c.args.self.now c.views_within.ensures.ordered _ _
    c.last_near-near.ensures c.last_ahead-last.ensures.last c.last_ahead-last.ensures.room.1
    (lt_yes _ _ c.if-lt.ensures) _
    (c.in-None.ensures
    ∙ ap (λ es. slice_get (filter_map (request_in g.D.PartialEq.eq g.L.Elector.elect c.args.self.now) es) 0) near)
    (c.first_request-in-None.ensures ∙ ap (λ es.
    slice_get (filter_map (request_in g.D.PartialEq.eq g.L.Elector.elect c.args.self.now) es) 0)
    c.views_within-in-None.ensures.within))

pub returns-clause-answer : goal.returns-clause-answer
returns-clause-answer g c =
    let ahead = c.views_within-2.ensures.within
    ∙ (λ i. views_within c.args.self.now (ap (λ x. x.current) c.self.view_is i) (c.last_ahead-last.ensures.last i))
    in
    answer_given g.D.PartialEq.eq g.L.Elector.elect c.args.self.now _ _ ahead c.first_request-2.ensures

pub returns-clause-ready : goal.returns-clause-ready
returns-clause-ready g c =
    let ahead = c.views_within-2.ensures.within
    ∙ (λ i. views_within c.args.self.now (ap (λ x. x.current) c.self.view_is i) (c.last_ahead-last.ensures.last i))
    in
    request_ready g.D.PartialEq.eq g.L.Elector.elect c.args.self.now c.views_within-2.ensures.ordered _
    (answer_given g.D.PartialEq.eq g.L.Elector.elect c.args.self.now _ _ ahead c.first_request-2.ensures)
