-- The search for the highest view with an explicit payload.
use Rattle.std.proofs.Common.{◌≡◌, ℕ, true, false, List, [], ◌∷◌, ◌++◌, ◌<◌, ◌≤◌, ltb, filter, length, arith, Option, Some, None, is_some, refl, ap, sym, ◌∙◌, inl, inr}
use Rattle.std.specs.List.{filter_map, cons_option, last_or}
use Rattle.std.proofs.lemmas.Bool.{cases_lt, lt-ltb, le-ltb, ne_eqb, false≢true}
use Rattle.std.specs.Prelude.{option_and_then}
use Rattle.std.proofs.lemmas.List.Elements.{filter_map-append}
use Rattle.simplex_round.specs.Round.{RoundFacts}
use Rattle.simplex_voter.specs.Facts.{StateFacts, round_at}
use Rattle.simplex_voter.specs.Rounds.{is_explicit}
use Rattle.simplex_voter.specs.Payloads.{certified_payload, explicit_ancestry_payload}
use Rattle.simplex_voter.specs.Parents.{at_view, explicit_at, explicit_below, highest_explicit}

module _ {A : Type 0} where
  last-append : (o : Option A) (xs : List A) (y : A) → last_or o (xs ++ y ∷ []) ≡ Some y
  last-append o [] y = refl
  last-append o (x ∷ xs) y = last-append (Some x) xs y

  last-nothing : (o : Option A) (xs : List A) → last_or o (xs ++ []) ≡ last_or o xs
  last-nothing o [] = refl
  last-nothing o (x ∷ xs) = last-nothing (Some x) xs

  last-some : (x : A) (xs : List A) → is_some (last_or (Some x) xs) ≡ true
  last-some x [] = refl
  last-some x (y ∷ xs) = last-some y xs

  -- where there is a last one, the other is not asked for
  last-there : (o : Option A) (xs : List A) (a : A) → Some a ≡ last_or None xs → Some a ≡ last_or o xs
  last-there o [] a is = let bad : Some a ≡ None = is in cc
  last-there o (x ∷ xs) a is = is

  last-absent : (o : Option A) (xs : List A) → None ≡ last_or None xs → o ≡ last_or o xs
  last-absent o [] is = refl
  last-absent o (x ∷ xs) is = absurd (false≢true (ap is_some is ∙ last-some x xs))

module _ {A B : Type 0} (h : A → Option B) (xs : List A) (y : A) where
  pub passed_by : (found : Option B) → found ≡ h y → false ≡ is_some found
      → last_or None (filter_map h (xs ++ y ∷ [])) ≡ last_or None (filter_map h xs)
  passed_by None is none = ap (last_or None)
      (filter_map-append h xs (y ∷ []) ∙ ap (λ o. filter_map h xs ++ cons_option o []) (sym is))
      ∙ last-nothing None (filter_map h xs)
  passed_by (Some b) is none = absurd (false≢true none)

  pub stopped_at : (found : Option B) → found ≡ h y → true ≡ is_some found
      → found ≡ last_or None (filter_map h (xs ++ y ∷ []))
  stopped_at None is some = absurd (false≢true (sym some))
  stopped_at (Some b) is some = sym (ap (last_or None)
      (filter_map-append h xs (y ∷ []) ∙ ap (λ o. filter_map h xs ++ cons_option o []) (sym is))
      ∙ last-append None (filter_map h xs) b)

pub none_left : {A B : Type 0} (h : A → Option B) (xs : List A) → length xs ≡ 0 → None ≡ last_or None (filter_map h xs)
none_left h [] is = refl
none_left h (x ∷ xs) is = absurd (omega (arith, is))

module _ {K L D : Type 0} (x : StateFacts K L D) where
  not_explicit : (r : RoundFacts K D) → is_explicit r ≡ false → certified_payload r ≡ None
  not_explicit r is = rw is refl

  -- a view above genesis that is not explicit has no explicit payload
  pub no_explicit : (w : ℕ) → 0 < w → ((r : RoundFacts K D) → round_at x w ≡ Some r → is_explicit r ≡ false)
      → explicit_ancestry_payload x w ≡ None
  unfolding explicit_ancestry_payload
  no_explicit w above rest = rw (ne_eqb w 0 (λ is. omega arith)) (by_round (round_at x w) refl)
    where
      by_round : (found : Option (RoundFacts K D)) → round_at x w ≡ found
          → option_and_then certified_payload found ≡ None
      by_round None is = refl
      by_round (Some r) is = not_explicit r (rest r is)

-- from `end` up to v no view has an explicit payload
module _ {K L D : Type 0} (x : StateFacts K L D) (v end : ℕ) (not_above : end ≤ v)
    (quiet : (w : ℕ) → end ≤ w → w < v → explicit_ancestry_payload x w ≡ None) where
  explicit_kept : (es : List (ℕ × RoundFacts K D))
      → filter_map (explicit_at x) (filter (λ e. ltb e.0 end) es) ≡ filter_map (explicit_below x v) es
  explicit_kept [] = refl
  explicit_kept (e ∷ es) = elim (cases_lt e.0 end) [
    | inl under ↦ rw (lt-ltb e.0 end under, lt-ltb e.0 v (omega (arith, not_above)), explicit_kept es) refl
    | inr over ↦ elim (cases_lt e.0 v) [
      | inl below ↦ rw (le-ltb e.0 end over, lt-ltb e.0 v below, quiet e.0 over below) (explicit_kept es)
      | inr above ↦ rw (le-ltb e.0 end over, le-ltb e.0 v above) (explicit_kept es)
    ]
  ]

  searched : filter_map (explicit_at x) (filter (λ e. ltb e.0 end) x.rounds) ≡ filter_map (explicit_below x v) x.rounds
  searched = explicit_kept x.rounds

  pub highest_found : (found : ℕ × D) → Some found ≡ last_or None
      (filter_map (explicit_at x) (filter (λ e. ltb e.0 end) x.rounds)) → Some found ≡ highest_explicit x v
  highest_found found is = last-there (at_view 0 x.genesis)
      (filter_map (explicit_at x) (filter (λ e. ltb e.0 end) x.rounds)) found is
      ∙ ap (last_or (at_view 0 x.genesis)) searched

  pub none_explicit : (genesis : Option (ℕ × D))
      → None ≡ last_or None (filter_map (explicit_at x) (filter (λ e. ltb e.0 end) x.rounds))
      → genesis ≡ at_view 0 x.genesis → genesis ≡ highest_explicit x v
  none_explicit genesis is other = other ∙ last-absent (at_view 0 x.genesis)
      (filter_map (explicit_at x) (filter (λ e. ltb e.0 end) x.rounds)) is ∙ ap (last_or (at_view 0 x.genesis)) searched
