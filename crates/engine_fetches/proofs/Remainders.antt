-- That none of what is left passes a test that none passed.
use Rattle.std.proofs.Common.{◌≡◌, Bool, true, false, cond, List, [], ◌∷◌, length, Some, None, filter, refl, ap, arith}
use Rattle.std.specs.Prelude.{nat_lt, position}
use Rattle.std.specs.List.{position_or_len}
use Rattle.std.proofs.lemmas.Bool.Decides.{nat_tests}

module _ {X : Type 0} (p q : X → Bool) where
  abbrev stands : List X → Bool
  stands xs = nat_lt (position_or_len p xs) (length xs)

  none_left : (xs : List X) → stands xs ≡ false → stands (filter q xs) ≡ false
  none_left [] none = refl
  none_left (x ∷ xs) none = by_test (none_left xs) (p x) refl (q x) refl
    where
      rest : p x ≡ false → stands xs ≡ false
      rest e = grind (arith, nat_tests, none, e)

      more : p x ≡ false → stands (filter q xs) ≡ false → stands (x ∷ filter q xs) ≡ false
      more e left = grind (arith, nat_tests, left, e)

      first : p x ≡ true → ⊥
      first e = grind (arith, nat_tests, none, e)

      by_test : (stands xs ≡ false → stands (filter q xs) ≡ false) → (t : Bool) → p x ≡ t → (u : Bool) → q x ≡ u
          → stands (cond u (x ∷ filter q xs) (filter q xs)) ≡ false
      by_test left true e u f = absurd (first e)
      by_test left false e true f = more e (left (rest e))
      by_test left false e false f = left (rest e)

  -- where none passed a test, none that is left does
  pub none_due : (xs : List X) → position p xs ≡ None → position p (filter q xs) ≡ None
  none_due xs none = ap (λ t. cond t (Some (position_or_len p (filter q xs))) None)
      (none_left xs (by_test (stands xs) refl none))
    where
      by_test : (t : Bool) → stands xs ≡ t → cond t (Some (position_or_len p xs)) None ≡ None → stands xs ≡ false
      by_test false e is = e
      by_test true e is = cc
