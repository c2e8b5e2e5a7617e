-- How the contract of `decide_nullify` follows: the view is tracked first, and its decision is the only change of its
-- round.
use Rattle.std.proofs.Common.{◌∙◌, refl}
use Rattle.simplex_round.specs.Round.{after_nullify}
use Rattle.simplex_voter.proofs.RoundChanges.{decided_alike}
use Rattle.simplex_voter.proofs.Changed.{never_none, kept_changed, changed_tracked}
use Rattle.simplex_voter.proofs.voter.rounds.Rounds.decide_nullify.Goals as goal

pub unreachable-requires : goal.unreachable-requires
unreachable-requires g c = never_none _ _ _ (c.self.view_is ∙ c.in_ok-track.ensures.tracked) _ refl
    c.in_default.ensures.value

pub invariant_of-self : goal.invariant_of-self
invariant_of-self g c = kept_changed _ _ refl c.self.invariant _ _ _ c.in-Some.ensures.value
    (decided_alike _ _ c.construct_nullify-retry.ensures.facts)

pub returns-clause-decided : goal.returns-clause-decided
returns-clause-decided g c =
    changed_tracked _ _ _ (c.self.view_is ∙ c.in_ok-track.ensures.tracked) _ refl _ _ (after_nullify)
    c.in-Some.ensures.value c.construct_nullify-retry.ensures.facts
