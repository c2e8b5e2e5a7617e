-- How the contract of `record_proposed` follows: the round takes an own proposal with its binding, and one that it
-- can't take is put back as it was.
use Rattle.std.proofs.Common.{false, not, ◌&&◌, ap, sym, refl, ◌∙◌}
use Rattle.std.specs.Option.{option_map_or}
use Rattle.simplex_types.specs.Proposal.{same_proposal}
use Rattle.simplex_round.specs.Slot.{holds_or_empty}
use Rattle.simplex_round.specs.Round.{is_nullify}
use Rattle.simplex_voter.specs.ProposalRequests.{proposal_of, proposed_round}
use Rattle.simplex_voter.proofs.RoundChanges.{alike_same}
use Rattle.simplex_voter.proofs.Changed.{found_at, kept_changed, changed_there_always}
use Rattle.simplex_voter.proofs.Worked.{put_back, own_is, own_alike}
use Rattle.simplex_voter.proofs.voter.rounds.Rounds.record_proposed.Goals as goal

pub returns-in_default-clause-recorded : goal.returns-in_default-clause-recorded
returns-in_default-clause-recorded g c =
    ap (λ o. option_map_or (λ r. not (is_nullify r.decision) && holds_or_empty (same_proposal g.D.PartialEq.eq) r.slot
    (proposal_of c.args.context.now c.args.payload)) o false)
    (c.in_default.ensures.value
    ∙ sym (found_at c.args.self.now _ (sym (ap (λ x. x.by_view) c.self.view_is)) c.args.context.now.round.view))

pub invariant_of-self-then-not-proposed : goal.invariant_of-self-then-not-proposed
invariant_of-self-then-not-proposed g c =
    kept_changed _ _ refl c.self.invariant _ _ _ c.in-Some.ensures.value
    (alike_same _ _ c.if-not-proposed.ensures.facts)

pub returns-then-not-proposed-clause-recorded : goal.returns-then-not-proposed-clause-recorded
returns-then-not-proposed-clause-recorded g c =
    c.if-not-proposed.ensures.recorded
    ∙ ap (λ p. not (is_nullify c.in-Some.round.now.decision) && holds_or_empty (same_proposal g.D.PartialEq.eq)
    c.in-Some.round.now.slot p) c.proposal_of-proposal.ensures
    ∙ ap (λ o. option_map_or (λ r. not (is_nullify r.decision) && holds_or_empty (same_proposal g.D.PartialEq.eq) r.slot
    (proposal_of c.args.context.now c.args.payload)) o false)
    (c.in-Some.ensures.value
    ∙ sym (found_at c.args.self.now _ (sym (ap (λ x. x.by_view) c.self.view_is)) c.args.context.now.round.view))

pub returns-then-not-proposed-clause-after : goal.returns-then-not-proposed-clause-after
returns-then-not-proposed-clause-after g c =
    rw (← c.self.view_is) (put_back _ _ refl _ _ _ c.in-Some.ensures.value c.if-not-proposed.ensures.facts)

pub invariant_of-self-2 : goal.invariant_of-self-2
invariant_of-self-2 g c =
    let own = own_is g.D.PartialEq.eq c.in-Some.round.now c.proposed.new.self c.set_verifying.new.self
    c.args.context.now c.args.payload _ c.args.now c.proposal_of-proposal.ensures c.if-not-proposed.ensures.facts
    c.set_verifying.ensures in
    kept_changed _ _ refl c.self.invariant _ _ _ c.in-Some.ensures.value
    (own_alike g.D.PartialEq.eq c.in-Some.round.now c.set_verifying.new.self c.args.context.now c.args.payload
    c.args.now own)

pub returns-clause-recorded : goal.returns-clause-recorded
returns-clause-recorded g c =
    c.if-not-proposed.ensures.recorded
    ∙ ap (λ p. not (is_nullify c.in-Some.round.now.decision) && holds_or_empty (same_proposal g.D.PartialEq.eq)
    c.in-Some.round.now.slot p) c.proposal_of-proposal.ensures
    ∙ ap (λ o. option_map_or (λ r. not (is_nullify r.decision) && holds_or_empty (same_proposal g.D.PartialEq.eq) r.slot
    (proposal_of c.args.context.now c.args.payload)) o false)
    (c.in-Some.ensures.value
    ∙ sym (found_at c.args.self.now _ (sym (ap (λ x. x.by_view) c.self.view_is)) c.args.context.now.round.view))

pub returns-clause-after : goal.returns-clause-after
returns-clause-after g c =
    let own = own_is g.D.PartialEq.eq c.in-Some.round.now c.proposed.new.self c.set_verifying.new.self
    c.args.context.now c.args.payload _ c.args.now c.proposal_of-proposal.ensures c.if-not-proposed.ensures.facts
    c.set_verifying.ensures in
    changed_there_always c.args.self.now _ c.self.view_is _ refl _ _ _
    (λ r. proposed_round g.D.PartialEq.eq r c.args.context.now c.args.payload c.args.now) c.in-Some.ensures.value
    own
