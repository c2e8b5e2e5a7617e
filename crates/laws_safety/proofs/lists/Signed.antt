-- The signed votes of traces, by any signer.
use Rattle.std.proofs.Common.{◌≡◌, ◌⊎◌, inl, inr, ℕ, List, [], ◌∷◌, ◌++◌, Option, Some, None, refl, ap, arith}
use Rattle.std.proofs.lemmas.List.Elements.{Contains-append_left, Contains-append_right, Contains-append_cases, Contains-push_cases}
use Rattle.simplex_types.specs.declared.types.messages.Subject.{Subject}
use Rattle.laws_safety.specs.Traces.{TraceEvent, Accepts, Signs}
use Rattle.laws_safety.specs.Lawful.{HasSigned, SignsAfter}
use Rattle.laws_safety.proofs.lists.Splits.{push_split}

-- the vote that an event signs
abbrev pub vote_of : {D : Type 0} → TraceEvent D → Option (Subject D)
vote_of (Accepts certificate) = None
vote_of (Signs signer vote) = Some vote

module _ {D : Type 0} where
  pub signed_none : (vote : Subject D) → HasSigned [] vote → ⊥
  signed_none vote h = absurd (omega (arith, h.1.1))

  pub signed_left : (trace more : List (TraceEvent D)) (vote : Subject D) → HasSigned trace vote
      → HasSigned (trace ++ more) vote
  signed_left trace more vote h = (h.0, Contains-append_left trace more (Signs h.0 vote) h.1)

  pub signed_right : (trace more : List (TraceEvent D)) (vote : Subject D) → HasSigned more vote
      → HasSigned (trace ++ more) vote
  signed_right trace more vote h = (h.0, Contains-append_right trace more (Signs h.0 vote) h.1)

  pub signed_cases : (trace more : List (TraceEvent D)) (vote : Subject D) → HasSigned (trace ++ more) vote
      → HasSigned trace vote ⊎ HasSigned more vote
  signed_cases trace more vote h = elim (Contains-append_cases trace more (Signs h.0 vote) h.1)
      [ inl old ↦ inl (h.0, old) | inr new ↦ inr (h.0, new) ]

  -- of one event more
  pub signed_push : (trace : List (TraceEvent D)) (trace_event : TraceEvent D) (vote : Subject D)
      → HasSigned (trace ++ trace_event ∷ []) vote → HasSigned trace vote ⊎ (vote_of trace_event ≡ Some vote)
  signed_push trace trace_event vote h = elim (Contains-push_cases trace trace_event (Signs h.0 vote) h.1)
      [ inl old ↦ inl (h.0, old) | inr new ↦ inr (ap vote_of new) ]

  pub signed_last : (trace : List (TraceEvent D)) (signer : ℕ) (vote : Subject D)
      → HasSigned (trace ++ Signs signer vote ∷ []) vote
  signed_last trace signer vote =
      (signer, Contains-append_right trace (Signs signer vote ∷ []) (Signs signer vote) (0, omega arith, refl))

  -- of one event alone
  pub only_signed : (trace_event : TraceEvent D) (vote : Subject D) → HasSigned (trace_event ∷ []) vote
      → vote_of trace_event ≡ Some vote
  only_signed trace_event vote h = elim (signed_push [] trace_event vote h)
      [ inl old ↦ absurd (signed_none vote old) | inr new ↦ new ]

  pub signed_split : (trace before : List (TraceEvent D)) (trace_event : TraceEvent D) (vote : Subject D)
      → SignsAfter (trace ++ trace_event ∷ []) before vote
      → SignsAfter trace before vote ⊎ ((before ≡ trace) × (vote_of trace_event ≡ Some vote))
  signed_split trace before trace_event vote h = elim (push_split trace before h.1 trace_event (Signs h.0 vote) h.2) [
    | inl old ↦ inl (h.0, old.0, old.1)
    | inr new ↦ inr (new.0, ap vote_of new.1)
  ]
