-- A slot continues to hold its proposal, unless another one is seen; and an empty round shows nothing.
use Rattle.std.proofs.Common.{◌≡◌, refl, ap, sym, ◌∙◌, subst, ℕ, ◌≤◌, ◌⊎◌, inl, inr, Bool, true, false, List, Option, Some, None}
use Rattle.std.specs.Option.{option_map_or}
use Rattle.std.proofs.lemmas.Bool.{false≢true, cases_Bool}
use Rattle.simplex_types.specs.Proposal.{same_proposal}
use Rattle.simplex_types.proofs.Proposal.{same_proposal-true}
use Rattle.simplex_types.specs.declared.types.messages.Proposal.{Proposal}
use Rattle.simplex_types.specs.declared.types.numbers.Round.{Round}
use Rattle.simplex_round.specs.Slot.{SlotFacts, holds_or_empty, after_certificate, after_own, after_vote}
use Rattle.simplex_round.specs.Round.{new_round}
use Rattle.laws_safety.specs.Traces.{TraceEvent}
use Rattle.laws_safety.proofs.votes.ShownVotes.{RoundShowsVotes}

-- a slot holds the proposal, unless another was seen
abbrev pub HoldsUncontested : {D : Type 0} → SlotFacts D → Proposal D → Type 0
HoldsUncontested s p = (s.conflict ≡ true) ⊎ (s.held ≡ Some p)

module _ {D : Type 0} (same : D → D → Bool) (decides : (d e : D) → same d e ≡ true → d ≡ e) where
  -- a certificate's proposal is held, unless another was seen
  pub holds_new : (s : SlotFacts D) (p : Proposal D) → HoldsUncontested (after_certificate (same_proposal same) s p) p
  holds_new s p = by_held s.held refl
    where
      by_held : (o : Option (Proposal D)) → s.held ≡ o → HoldsUncontested (after_certificate (same_proposal same) s p) p
      by_held None is = rw is (inr refl)
      by_held (Some h) is = elim (cases_Bool (same_proposal same h p)) [
        | inl alike ↦ rw (is, alike) (inr (ap Some (same_proposal-true same decides h p alike)))
        | inr other ↦ rw (is, other) (inl refl)
      ]

  -- the held proposal stays held, unless another is seen
  pub holds_old : (s : SlotFacts D) (p q : Proposal D) → HoldsUncontested s q
      → HoldsUncontested (after_certificate (same_proposal same) s p) q
  holds_old s p q holds = by_held s.held refl
    where
      by_held : (o : Option (Proposal D)) → s.held ≡ o → HoldsUncontested (after_certificate (same_proposal same) s p) q
      by_held None is = elim holds [
        | inl seen ↦ rw is (inl seen)
        | inr here ↦ absurd (let e = sym is ∙ here in cc)
      ]
      by_held (Some h) is = elim (cases_Bool (same_proposal same h p)) [
        | inl alike ↦ rw (is, alike) (subst (λ o. (s.conflict ≡ true) ⊎ (o ≡ Some q)) is holds)
        | inr other ↦ rw (is, other) (inl refl)
      ]

  -- a proposal of one's own takes no other one's place
  pub holds_own : (s : SlotFacts D) (p q : Proposal D) → HoldsUncontested s q
      → HoldsUncontested (after_own (same_proposal same) s p) q
  holds_own s p q holds = by_test (holds_or_empty (same_proposal same) s p) refl
    where
      taken_over : s.held ≡ Some q → holds_or_empty (same_proposal same) s p ≡ true → Some p ≡ Some q
      taken_over here fits = ap Some (sym (same_proposal-true same decides q p
          (ap (λ o. option_map_or (λ h. same_proposal same h p) o true) (sym here) ∙ fits)))

      by_test : (b : Bool) → holds_or_empty (same_proposal same) s p ≡ b
          → HoldsUncontested (after_own (same_proposal same) s p) q
      by_test false is = rw is holds
      by_test true is = elim holds [
        | inl seen ↦ rw is (inl seen)
        | inr here ↦ (let over = taken_over here is in rw is (inr over))
      ]

module _ {D : Type 0} (same : D → D → Bool) where
  -- nor does one that is received
  pub holds_voted : (s : SlotFacts D) (p q : Proposal D) → HoldsUncontested s q
      → HoldsUncontested (after_vote (same_proposal same) s p) q
  holds_voted s p q holds = by_held s.held refl
    where
      by_held : (o : Option (Proposal D)) → s.held ≡ o → HoldsUncontested (after_vote (same_proposal same) s p) q
      by_held None is = elim holds [
        | inl seen ↦ rw is (inl seen)
        | inr here ↦ absurd (let e = sym is ∙ here in cc)
      ]
      by_held (Some h) is = elim holds [
        | inl seen ↦ rw (is, seen) (inl refl)
        | inr here ↦ (let there : Some h ≡ Some q = sym is ∙ here in rw is (inr there))
      ]

-- nothing is known of a view whose votes are no higher than a finalization
pub fresh_stands : {K D : Type 0} (trace : List (TraceEvent D)) (reached finalized v : ℕ) (me : Option ℕ)
    (members : List K) (round : Round) → v ≤ finalized
    → RoundShowsVotes trace reached finalized v (new_round me members round)
fresh_stands trace reached finalized v me members round below = record {
  notarized = λ c is. absurd (cc);
  held = λ c is. absurd (cc);
  entered = λ is. absurd (false≢true is);
  left = λ is. absurd (false≢true is);
  nullify_decided = λ round h at. inr below;
  finalize_decided = λ p h at. inr below;
}
