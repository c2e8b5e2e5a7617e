-- For `agreement`.
-- The order of two votes of one member, and the relation of the trace before a vote to the whole.
use Rattle.std.proofs.Common.{◌≡◌, ℕ, zero, suc, inl, inr, List, [], ◌∷◌, ◌++◌, Contains, arith, refl, sym, ap, ◌∙◌, subst, append_assoc}
use Rattle.std.proofs.lemmas.List.Elements.{Contains-append_left, Contains-append_right, Contains-append_cases}
use Rattle.simplex_types.specs.declared.types.messages.Subject.{Subject}
use Rattle.laws_safety.specs.Traces.{TraceEvent, Signs}
use Rattle.laws_safety.specs.Lawful.{HasSigned, SignsAfter}

-- an element splits its list
pub Contains-split : {X : Type 0} (xs : List X) (x : X) → Contains xs x
    → (before after : List X) × (xs ≡ before ++ x ∷ after)
Contains-split [] x h = absurd (omega arith)
Contains-split {X} (y ∷ xs) x (zero, less, same) = ([], xs, ap (λ (z : X). z ∷ xs) same)
Contains-split {X} (y ∷ xs) x (suc k, less, same) =
    let parts = Contains-split xs x (k, omega arith, same) in
    (y ∷ parts.0, parts.1, ap (λ (zs : List X). y ∷ zs) parts.2)

-- a list with an element in its middle holds it
pub Contains-middle : {X : Type 0} (before after : List X) (x : X) → Contains (before ++ x ∷ after) x
Contains-middle before after x = Contains-append_right before (x ∷ after) x (0, omega arith, refl)

module _ {D : Type 0} where
  pub voted : (trace : List (TraceEvent D)) (vote : Subject D) → HasSigned trace vote
      → (before : List (TraceEvent D)) × SignsAfter trace before vote
  voted trace vote h = let parts = Contains-split trace (Signs h.0 vote) h.1 in (parts.0, (h.0, parts.1, parts.2))

  -- an event before a vote is in the whole trace
  pub earlier : (trace before : List (TraceEvent D)) (vote : Subject D) (trace_event : TraceEvent D)
      → SignsAfter trace before vote → Contains before trace_event → Contains trace trace_event
  earlier trace before vote trace_event (i, after, is) h =
      subst (λ xs. Contains xs trace_event) (sym is) (Contains-append_left before (Signs i vote ∷ after) trace_event h)

-- two votes are one, or one of them was signed before the other
pub data Order {D : Type 0} (trace : List (TraceEvent D)) (a b : Subject D) : Type 0 where
  Same : a ≡ b → Order trace a b
  First : (before : List (TraceEvent D)) → SignsAfter trace before b → HasSigned before a → Order trace a b
  Second : (before : List (TraceEvent D)) → SignsAfter trace before a → HasSigned before b → Order trace a b

module _ {D : Type 0} (trace : List (TraceEvent D)) (a b : Subject D) where
  signs_same : (i j : ℕ) → Signs i a ≡ Signs j b → a ≡ b
  signs_same i j e = cc

  -- if the list is split at the first vote and has the second one after it
  second_later : (before after : List (TraceEvent D)) (i j : ℕ) → trace ≡ before ++ Signs i a ∷ after
      → Contains after (Signs j b) → Order trace a b
  second_later before after i j is there =
      let parts = Contains-split after (Signs j b) there in
      let front : List (TraceEvent D) = before ++ Signs i a ∷ parts.0 in
      let split = is ∙ (ap (λ (xs : List (TraceEvent D)). before ++ Signs i a ∷ xs) parts.2
      ∙ sym (append_assoc before (Signs i a ∷ parts.0) (Signs j b ∷ parts.1))) in
      First front (j, parts.1, split) (i, Contains-middle before parts.0 (Signs i a))

  -- if the second vote is the first one or comes after it
  from_first : (before after : List (TraceEvent D)) (i j : ℕ) → trace ≡ before ++ Signs i a ∷ after
      → Contains (Signs i a ∷ after) (Signs j b) → Order trace a b
  from_first before after i j is (zero, less, same) = Same (signs_same i j same)
  from_first before after i j is (suc k, less, same) = second_later before after i j is (k, omega arith, same)

  pub in_order : HasSigned trace a → HasSigned trace b → Order trace a b
  in_order (i, has_a) (j, has_b) =
      let parts = Contains-split trace (Signs i a) has_a in
      let placed = Contains-append_cases parts.0 (Signs i a ∷ parts.1) (Signs j b)
      (subst (λ (xs : List (TraceEvent D)). Contains xs (Signs j b)) parts.2 has_b) in
      elim placed [
        | inl old ↦ Second parts.0 (i, parts.1, parts.2) (j, old)
        | inr new ↦
            from_first parts.0 parts.1 i j parts.2 new
      ]
