-- For `agreement`.
-- The voting rules at the moment of one event of a trace, and that they are kept event by event.
use Rattle.std.proofs.Common.{◌≡◌, ◌≢◌, ℕ, ◌<◌, inl, inr, List, [], ◌∷◌, ◌++◌, Contains, Option, Some, None, sym, ◌∙◌, subst}
use Rattle.std.specs.Prelude.{⊤, true, false}
use Rattle.simplex_types.specs.declared.types.messages.Proposal.{Proposal}
use Rattle.simplex_types.specs.declared.types.numbers.Round.{Round}
use Rattle.simplex_types.specs.declared.types.messages.Subject.{Subject}
use Rattle.simplex_types.specs.declared.types.messages.Subject.TheVariants as subject
use Rattle.simplex_types.specs.Terms.{covers}
use Rattle.laws_safety.specs.Traces.{TraceEvent, Accepts}
use Rattle.laws_safety.specs.Lawful.{HasSigned, SignsAfter, HasCover, HasFinalizedBetween, IsLawful}
use Rattle.laws_safety.proofs.lists.Signed.{vote_of, signed_none, signed_push, signed_split}

pub record AllowsNotarize {D : Type 0} (term_length : ℕ) (trace : List (TraceEvent D)) (p : Proposal D) : Type 0 where
  pub only : (q : Proposal D) → HasSigned trace (subject.Notarize q) → q.round.view ≢ p.round.view
  pub parent_before : p.parent < p.round.view
  pub gapless : (skipped : ℕ) → p.parent < skipped → skipped < p.round.view → HasCover term_length trace skipped

pub record AllowsNullify {D : Type 0} (term_length : ℕ) (trace : List (TraceEvent D)) (round : Round) : Type 0 where
  pub not_finalized : (p : Proposal D) → HasSigned trace (subject.Finalize p) → round.view ≢ p.round.view
  pub ahead : (p : Proposal D) → HasSigned trace (subject.Finalize p)
      → covers term_length round.view p.round.view ≡ false

pub record AllowsFinalize {D : Type 0} (term_length : ℕ) (trace : List (TraceEvent D)) (p : Proposal D) : Type 0 where
  pub only : (q : Proposal D) → HasSigned trace (subject.Finalize q) → q.round.view ≢ p.round.view
  pub not_nullified : (round : Round) → HasSigned trace (subject.Nullify round) → round.view ≢ p.round.view
  pub notarized : Contains trace (Accepts (subject.Notarize p))
  pub past_nullify : (round : Round) → HasSigned trace (subject.Nullify round) → round.view < p.round.view
      → covers term_length round.view p.round.view ≡ true → HasFinalizedBetween trace round.view p.round.view

-- one more vote, if any
abbrev pub Allows : {D : Type 0} → ℕ → List (TraceEvent D) → Option (Subject D) → Type 0
Allows term_length trace None = ⊤
Allows term_length trace (Some (subject.Notarize p)) = AllowsNotarize term_length trace p
Allows term_length trace (Some (subject.Nullify round)) = AllowsNullify term_length trace round
Allows term_length trace (Some (subject.Finalize p)) = AllowsFinalize term_length trace p

no_cast : {D : Type 0} (vote : Subject D) (before : List (TraceEvent D)) → SignsAfter [] before vote → ⊥
no_cast vote [] at = absurd (let e = at.2 in cc)
no_cast vote (b ∷ before) at = absurd (let e = at.2 in cc)

-- an empty trace breaks no rule
pub lawful_start : {D : Type 0} (term_length : ℕ) → IsLawful {D = D} term_length []
lawful_start {D} term_length =
    record {
      one_notarize = λ before p q at h. absurd (no_cast (subject.Notarize p) before at);
      one_finalize = λ before p q at h. absurd (no_cast (subject.Finalize p) before at);
      not_both = λ round p h k. absurd (signed_none (subject.Nullify round) h);
      finalizes_notarized = λ before p at. absurd (no_cast (subject.Finalize p) before at);
      finalizes_past_nullify = λ before p round at h less covers. absurd (no_cast (subject.Finalize p) before at);
      nullifies_ahead = λ before round p at h. absurd (no_cast (subject.Nullify round) before at);
      parent_before = λ before p at. absurd (no_cast (subject.Notarize p) before at);
      gapless = λ before p skipped at low high. absurd (no_cast (subject.Notarize p) before at);
    }

-- a trace that keeps the rules and one more event that they allow keep the rules
pub lawful_push : {D : Type 0} (term_length : ℕ) (trace : List (TraceEvent D)) (trace_event : TraceEvent D)
    → IsLawful term_length trace → Allows term_length trace (vote_of trace_event)
    → IsLawful term_length (trace ++ trace_event ∷ [])
lawful_push {D} term_length trace trace_event lawful allows =
    record {
      one_notarize = λ before p q at h.
          elim (signed_split trace before trace_event (subject.Notarize p) at) [
            | inl old ↦ lawful.one_notarize before p q old h
            | inr new ↦ (let a = subst (Allows term_length trace) new.1 allows in
                a.only q (subst (λ xs. HasSigned xs (subject.Notarize q)) new.0 h))
          ];
      one_finalize = λ before p q at h.
          elim (signed_split trace before trace_event (subject.Finalize p) at) [
            | inl old ↦ lawful.one_finalize before p q old h
            | inr new ↦ (let a = subst (Allows term_length trace) new.1 allows in
                a.only q (subst (λ xs. HasSigned xs (subject.Finalize q)) new.0 h))
          ];
      not_both = λ round p h k.
          elim (signed_push trace trace_event (subject.Nullify round) h) [
            | inl old_h ↦
                elim (signed_push trace trace_event (subject.Finalize p) k) [
                  | inl old_k ↦ lawful.not_both round p old_h old_k
                  | inr new_k ↦ (let a = subst (Allows term_length trace) new_k allows in a.not_nullified round old_h)
                ]
            | inr new_h ↦
                elim (signed_push trace trace_event (subject.Finalize p) k) [
                  | inl old_k ↦ (let a = subst (Allows term_length trace) new_h allows in a.not_finalized p old_k)
                  | inr new_k ↦ absurd
                      (let e : Some (subject.Nullify round) ≡ Some (subject.Finalize p) = sym new_h ∙ new_k in cc)
                ]
          ];
      finalizes_notarized = λ before p at.
          elim (signed_split trace before trace_event (subject.Finalize p) at) [
            | inl old ↦ lawful.finalizes_notarized before p old
            | inr new ↦ (let a = subst (Allows term_length trace) new.1 allows in
                subst (λ xs. Contains xs (Accepts (subject.Notarize p))) (sym new.0) a.notarized)
          ];
      finalizes_past_nullify = λ before p round at h less covers.
          elim (signed_split trace before trace_event (subject.Finalize p) at) [
            | inl old ↦ lawful.finalizes_past_nullify before p round old h less covers
            | inr new ↦
                (let a = subst (Allows term_length trace) new.1 allows in
                subst (λ xs. HasFinalizedBetween xs round.view p.round.view) (sym new.0)
                (a.past_nullify round (subst (λ xs. HasSigned xs (subject.Nullify round)) new.0 h) less covers))
          ];
      nullifies_ahead = λ before round p at h.
          elim (signed_split trace before trace_event (subject.Nullify round) at) [
            | inl old ↦ lawful.nullifies_ahead before round p old h
            | inr new ↦ (let a = subst (Allows term_length trace) new.1 allows in
                a.ahead p (subst (λ xs. HasSigned xs (subject.Finalize p)) new.0 h))
          ];
      parent_before = λ before p at.
          elim (signed_split trace before trace_event (subject.Notarize p) at) [
            | inl old ↦ lawful.parent_before before p old
            | inr new ↦ (let a = subst (Allows term_length trace) new.1 allows in a.parent_before)
          ];
      gapless = λ before p skipped at low high.
          elim (signed_split trace before trace_event (subject.Notarize p) at) [
            | inl old ↦ lawful.gapless before p skipped old low high
            | inr new ↦ (let a = subst (Allows term_length trace) new.1 allows in
                subst (λ xs. HasCover term_length xs skipped) (sym new.0) (a.gapless skipped low high))
          ];
    }
