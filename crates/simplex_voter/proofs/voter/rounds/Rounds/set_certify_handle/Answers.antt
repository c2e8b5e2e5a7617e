-- How the contract of `set_certify_handle` follows: the bounds allow a certification that is under way before the round
-- has the token.
use Rattle.std.proofs.Common.{refl}
use Rattle.simplex_round.specs.declared.round.Certification.TheVariants.{Outstanding}
use Rattle.simplex_voter.proofs.RoundChanges.{asked_alike}
use Rattle.simplex_voter.proofs.Changed.{wider_kept, kept_changed, changed_there, untouched}
use Rattle.simplex_voter.proofs.voter.rounds.Rounds.set_certify_handle.Goals as goal

pub invariant_of-self-2 : goal.invariant_of-self-2
invariant_of-self-2 g c = kept_changed _ _ refl (wider_kept _ c.allow_certification.ensures.wider c.self.invariant) _ _
    _ c.in-Some.ensures.value (asked_alike _ _ _ c.allow_certification.ensures.under_way c.set_certify_handle.ensures)

pub returns-in_default-clause-set : goal.returns-in_default-clause-set
returns-in_default-clause-set g c = rw (← c.self.view_is)
    (untouched _ _ refl _ (λ r. record r { certification = Outstanding c.args.token }) c.in_default.ensures.value)

pub returns-clause-set : goal.returns-clause-set
returns-clause-set g c = rw (← c.self.view_is)
    (changed_there _ _ refl _ _ _ (λ r. record r { certification = Outstanding c.args.token }) c.in-Some.ensures.value
    c.set_certify_handle.ensures)
