-- How the contract of `take_proposal` follows: the view is tracked first, and the proposal in the slot is the only
-- change of its round.
use Rattle.std.proofs.Common.{◌∙◌, refl}
use Rattle.simplex_voter.specs.Verification.{with_proposal}
use Rattle.simplex_voter.proofs.RoundChanges.{proposed_alike}
use Rattle.simplex_voter.proofs.Changed.{never_none, lent_tracked, kept_changed, changed_tracked}
use Rattle.simplex_voter.proofs.voter.rounds.Rounds.take_proposal.Goals as goal

pub unreachable-requires : goal.unreachable-requires
unreachable-requires g c = never_none _ _ _ (c.self.view_is ∙ c.in_ok-track.ensures.tracked) _ refl
    c.in_default.ensures.value

pub invariant_of-self : goal.invariant_of-self
invariant_of-self g c = kept_changed _ _ refl c.self.invariant _ _ _ c.in-Some.ensures.value
    (proposed_alike g.D.PartialEq.eq _ _ c.args.proposal.now c.set_proposal.ensures.facts)

pub returns-clause-taken : goal.returns-clause-taken
returns-clause-taken g c =
    changed_tracked _ _ _ (c.self.view_is ∙ c.in_ok-track.ensures.tracked) _ refl _ _
    (λ r. with_proposal g.D.PartialEq.eq r c.args.proposal.now) c.in-Some.ensures.value c.set_proposal.ensures.facts

pub returns-clause-first : goal.returns-clause-first
returns-clause-first g c =
    let lent = lent_tracked _ _ _ (c.self.view_is ∙ c.in_ok-track.ensures.tracked) _ refl _ c.in-Some.ensures.value in
    c.set_proposal.ensures.first ∙ rw lent refl
