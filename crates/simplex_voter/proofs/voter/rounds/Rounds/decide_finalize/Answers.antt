-- How the contract of `decide_finalize` follows: a view that may be finalized is tracked, and its vote is for its
-- notarization's proposal.
use Rattle.std.proofs.Common.{ap, sym, refl, ◌∙◌, inl}
use Rattle.simplex_round.specs.Round.{can_finalize}
use Rattle.simplex_round.specs.declared.round.Decision.TheVariants.{Finalize}
use Rattle.simplex_voter.proofs.Changed.{lent, finalizable_there, kept_changed, changed_there_always}
use Rattle.simplex_voter.proofs.voter.rounds.Rounds.decide_finalize.Goals as goal

pub unreachable-requires : goal.unreachable-requires
unreachable-requires g c = finalizable_there c.args.self.now _ (sym (ap (λ x. x.by_view) c.self.view_is)) _ c.requires
    c.in_default.ensures.value

pub invariant_of-self : goal.invariant_of-self
invariant_of-self g c =
    let lent = lent c.args.self.now _ (sym (ap (λ x. x.by_view) c.self.view_is)) _ _ c.in-Some.ensures.value in
    let can = ap can_finalize lent ∙ c.requires in
    kept_changed _ _ refl c.self.invariant _ _ _ c.in-Some.ensures.value
    (rw (c.construct_finalize.ensures.facts, can)
    (record {
      me = refl;
      members = refl;
      round = refl;
      notarization = refl;
      leader = refl;
      explicit = inl;
      under_way = inl;
      refused = inl;
    }))

pub returns-clause-vote : goal.returns-clause-vote
returns-clause-vote g c =
    let lent = lent c.args.self.now _ (sym (ap (λ x. x.by_view) c.self.view_is)) _ _ c.in-Some.ensures.value in
    let can = ap can_finalize lent ∙ c.requires in
    c.construct_finalize.ensures.vote ∙ rw can (ap (λ r. r.slot.held) lent)

pub returns-clause-decided : goal.returns-clause-decided
returns-clause-decided g c =
    let lent = lent c.args.self.now _ (sym (ap (λ x. x.by_view) c.self.view_is)) _ _ c.in-Some.ensures.value in
    let can = ap can_finalize lent ∙ c.requires in
    changed_there_always c.args.self.now _ c.self.view_is _ refl _ _ _ (λ r. record r { decision = Finalize })
    c.in-Some.ensures.value (c.construct_finalize.ensures.facts ∙ rw can refl)
