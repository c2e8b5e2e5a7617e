-- How the contract of `judge` follows: the bounds allow the verdict before the round has it, so the invariant holds.
use Rattle.std.proofs.Common.{ap, sym, refl, ◌∙◌}
use Rattle.simplex_round.specs.Round.{certified_round}
use Rattle.simplex_voter.proofs.RoundChanges.{judged_alike}
use Rattle.simplex_voter.proofs.Changed.{found_at, wider_kept, kept_changed, changed_there, untouched}
use Rattle.simplex_voter.proofs.voter.rounds.Rounds.judge.Goals as goal

pub invariant_of-self : goal.invariant_of-self
invariant_of-self g c = wider_kept _ c.allow_verdict.ensures.wider c.self.invariant

pub invariant_of-self-in_default : goal.invariant_of-self-in_default
invariant_of-self-in_default g c = wider_kept _ c.allow_verdict.ensures.wider c.self.invariant

pub invariant_of-self-2 : goal.invariant_of-self-2
invariant_of-self-2 g c = kept_changed _ _ refl (wider_kept _ c.allow_verdict.ensures.wider c.self.invariant) _ _ _
    c.in-Some.ensures.value (judged_alike _ _ c.args.success c.in_ok-allow_verdict.ensures.judged c.certified.ensures)

pub returns-in_default-clause-judged : goal.returns-in_default-clause-judged
returns-in_default-clause-judged g c = rw (← c.self.view_is)
    (untouched _ _ refl _ (λ r. certified_round r c.args.success) c.in_default.ensures.value)

pub returns-clause-judged : goal.returns-clause-judged
returns-clause-judged g c = rw (← c.self.view_is)
    (changed_there _ _ refl _ _ _ (λ r. certified_round r c.args.success) c.in-Some.ensures.value c.certified.ensures)

pub certified-requires : goal.certified-requires
certified-requires g c =
    let here = c.in-Some.ensures.value ∙ sym
    (found_at c.args.self.now _ (sym (ap (λ x. x.by_view) c.self.view_is)) c.args.view) in
    rw (← here) at c.requires
