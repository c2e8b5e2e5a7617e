-- How the contract of `decide_notarize` follows: a view that may be notarized is tracked, and its vote is for its held
-- proposal.
use Rattle.std.proofs.Common.{true, ap, sym, refl, ◌∙◌}
use Rattle.simplex_round.specs.Round.{can_notarize}
use Rattle.simplex_voter.proofs.Changed.{lent, kept_changed, changed_there_always}
use Rattle.simplex_voter.proofs.Worked.{notarizable_there, either_true, notarized_alike}
use Rattle.simplex_voter.proofs.voter.rounds.Rounds.decide_notarize.Goals as goal

pub unreachable-requires : goal.unreachable-requires
unreachable-requires g c = notarizable_there c.args.self.now _ (sym (ap (λ x. x.by_view) c.self.view_is)) _ c.requires
    c.in_default.ensures.value

pub invariant_of-self : goal.invariant_of-self
invariant_of-self g c = kept_changed _ _ refl c.self.invariant _ _ _ c.in-Some.ensures.value
    (notarized_alike _ _ _ c.construct_notarize.ensures.facts)

pub returns-clause-vote : goal.returns-clause-vote
returns-clause-vote g c =
    let lent = lent c.args.self.now _ (sym (ap (λ x. x.by_view) c.self.view_is)) _ _ c.in-Some.ensures.value in
    let can = ap can_notarize lent ∙ c.requires in
    c.construct_notarize.ensures.vote ∙ rw can (ap (λ r. r.slot.held) lent)

pub returns-clause-decided : goal.returns-clause-decided
returns-clause-decided g c =
    let lent = lent c.args.self.now _ (sym (ap (λ x. x.by_view) c.self.view_is)) _ _ c.in-Some.ensures.value in
    let can = ap can_notarize lent ∙ c.requires in
    changed_there_always c.args.self.now _ c.self.view_is _ refl _ _ _ (λ r. record r { notarize_decided = true })
    c.in-Some.ensures.value
    (c.construct_notarize.ensures.facts ∙ rw (can, either_true c.in-Some.round.now.notarize_decided) refl)
