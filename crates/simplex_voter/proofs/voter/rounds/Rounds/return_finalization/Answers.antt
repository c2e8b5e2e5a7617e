-- How the contract of `return_finalization` follows: the round returns it once, and an untracked view has none.
use Rattle.std.proofs.Common.{ap, sym, refl, ◌∙◌, ◌||◌, is_some, inl}
use Rattle.std.specs.Prelude.{option_and_then}
use Rattle.simplex_round.specs.Round.{once}
use Rattle.simplex_voter.proofs.Shown.{on_ok}
use Rattle.simplex_voter.proofs.RoundChanges.{handed_out_alike}
use Rattle.simplex_voter.proofs.Changed.{found_at, kept_changed, changed_there, untouched}
use Rattle.simplex_voter.proofs.voter.rounds.Rounds.return_finalization.Goals as goal

pub invariant_of-self-2 : goal.invariant_of-self-2
invariant_of-self-2 g c =
    kept_changed _ _ refl c.self.invariant _ _ _ c.in-Some.ensures.value
    (handed_out_alike c.broadcast_finalization.result _ _ _
    (record {
      me = refl;
      members = refl;
      round = refl;
      notarization = refl;
      leader = refl;
      explicit = inl;
      under_way = inl;
      refused = inl;
    }) c.broadcast_finalization.ensures.unchanged
    c.broadcast_finalization.ensures.facts)

pub returns-in_default-clause-answer : goal.returns-in_default-clause-answer
returns-in_default-clause-answer g c = ap (option_and_then (λ r. once r.finalization_broadcast r.finalization))
    (c.in_default.ensures.value
    ∙ sym (found_at c.args.self.now _ (sym (ap (λ x. x.by_view) c.self.view_is)) c.args.view))

pub returns-in_default-clause-handed_out : goal.returns-in_default-clause-handed_out
returns-in_default-clause-handed_out g c =
    rw (← c.self.view_is) (untouched _ _ refl _
    (λ r. record r { finalization_broadcast = r.finalization_broadcast || is_some r.finalization })
    c.in_default.ensures.value)

pub returns-clause-answer : goal.returns-clause-answer
returns-clause-answer g c =
    let here = c.in-Some.ensures.value ∙ sym
    (found_at c.args.self.now _ (sym (ap (λ x. x.by_view) c.self.view_is)) c.args.view) in
    rw (← here) c.broadcast_finalization.ensures.answer

pub returns-clause-handed_out : goal.returns-clause-handed_out
returns-clause-handed_out g c =
    on_ok c.broadcast_finalization.result (λ is.
    rw (← c.self.view_is) (changed_there _ _ refl _ _ _
    (λ r. record r { finalization_broadcast = r.finalization_broadcast || is_some r.finalization })
    c.in-Some.ensures.value is)) c.broadcast_finalization.ensures.facts

pub returns-clause-refused_only_a_copy : goal.returns-clause-refused_only_a_copy
returns-clause-refused_only_a_copy g c =
    let here = c.in-Some.ensures.value ∙ sym
    (found_at c.args.self.now _ (sym (ap (λ x. x.by_view) c.self.view_is)) c.args.view) in
    rw (← here) c.broadcast_finalization.ensures.refused_only_a_copy
