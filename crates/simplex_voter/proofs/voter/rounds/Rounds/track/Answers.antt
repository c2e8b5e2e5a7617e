-- How the contract of `track` follows: a tracked view stays as it was, and a new round is added that keeps the
-- invariant.
use Rattle.std.proofs.Common.{refl, ◌∙◌}
use Rattle.simplex_voter.proofs.RoundsKept.{looked_up, inserted_new}
use Rattle.simplex_voter.proofs.Changed.{stays, goes_in, kept_in}
use Rattle.simplex_voter.proofs.voter.rounds.Rounds.track.Goals as goal

pub returns-then-is_some-clause-tracked : goal.returns-then-is_some-clause-tracked
returns-then-is_some-clause-tracked g c =
    rw (← c.self.view_is) (stays _ _ refl _ (looked_up _ _ _ c.get.ensures c.if-is_some.ensures))

pub invariant_of-self : goal.invariant_of-self
invariant_of-self g c = rw c.in_err-_standing.ensures.after c.self.invariant

pub invariant_of-self-2 : goal.invariant_of-self-2
invariant_of-self-2 g c =
    let absent = looked_up _ _ _ c.get.ensures c.if-is_some.ensures in
    let new = inserted_new _ _ _ _ _ absent c.in_ok-_standing.ensures.standing c.in_ok-_standing.ensures.after in
    kept_in _ _ refl c.self.invariant _ _ _ c.requires new
    (c.new-fresh.ensures ∙ rw (c.in_ok-copy.ensures.signer, c.in_ok-copy.ensures.members) refl)

pub returns-clause-tracked : goal.returns-clause-tracked
returns-clause-tracked g c =
    let absent = looked_up _ _ _ c.get.ensures c.if-is_some.ensures in
    let new = inserted_new _ _ _ _ _ absent c.in_ok-_standing.ensures.standing c.in_ok-_standing.ensures.after in
    rw (← c.self.view_is) (goes_in _ _ refl _ _ _ absent new
    (c.new-fresh.ensures ∙ rw (c.in_ok-copy.ensures.signer, c.in_ok-copy.ensures.members) refl))
