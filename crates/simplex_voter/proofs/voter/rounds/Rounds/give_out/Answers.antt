-- How the contract of `give_out` follows: the round at the view is bound to its pending proposal, and a round without
-- one stays.
use Rattle.std.proofs.Common.{is_some, ap, sym, refl, ◌∙◌}
use Rattle.std.proofs.lemmas.Bool.{false≢true}
use Rattle.simplex_round.specs.Round.{pending_proposal}
use Rattle.simplex_voter.specs.Verification.{verifying_round}
use Rattle.simplex_voter.proofs.RoundChanges.{unchanged}
use Rattle.simplex_voter.proofs.Changed.{lent, kept_changed, changed_there, untouched}
use Rattle.simplex_voter.proofs.Worked.{given_is, verifying_alike}
use Rattle.simplex_voter.proofs.voter.rounds.Rounds.give_out.Goals as goal

pub invariant_of-self-in_default-pending_verification : goal.invariant_of-self-in_default-pending_verification
invariant_of-self-in_default-pending_verification g c =
    kept_changed _ _ refl c.self.invariant _ _ _ c.in-Some.ensures.value (unchanged _)

pub invariant_of-self-2 : goal.invariant_of-self-2
invariant_of-self-2 g c =
    let given = given_is _ _ _ (c.in-Some-pending_verification.field-0-0, c.in-Some-pending_verification.proposal) _
    (sym c.in-Some-pending_verification.is ∙ c.pending_verification.ensures) c.request_verify.ensures.facts
    c.set_verifying.ensures in
    kept_changed _ _ refl c.self.invariant _ _ _ c.in-Some.ensures.value (verifying_alike _ _ _ given)

pub returns-in_default-clause-given : goal.returns-in_default-clause-given
returns-in_default-clause-given g c = rw (← c.self.view_is)
    (untouched _ _ refl _ (λ r. verifying_round r c.args.payload) c.in_default.ensures.value)

pub returns-in_default-pending_verification-clause-given : goal.returns-in_default-pending_verification-clause-given
returns-in_default-pending_verification-clause-given g c =
    let lent = lent c.args.self.now _ (sym (ap (λ x. x.by_view) c.self.view_is)) _ _ c.in-Some.ensures.value in
    absurd (false≢true (ap is_some (c.in_default-pending_verification.ensures ∙ ap pending_proposal lent) ∙ c.requires))

pub returns-clause-given : goal.returns-clause-given
returns-clause-given g c =
    let given = given_is _ _ _ (c.in-Some-pending_verification.field-0-0, c.in-Some-pending_verification.proposal) _
    (sym c.in-Some-pending_verification.is ∙ c.pending_verification.ensures) c.request_verify.ensures.facts
    c.set_verifying.ensures in
    rw (← c.self.view_is)
    (changed_there _ _ refl _ _ _ (λ r. verifying_round r c.args.payload) c.in-Some.ensures.value given)
