-- Votes of a quorum of members, by index; and two lists whose items belong together.
use Rattle.std.proofs.Common.{◌≡◌, inl, inr, ℕ, zero, suc, ◌+◌, ◌≤◌, Bool, cond, List, [], ◌∷◌, length, slice_get, Some, refl, ap, sym, subst, ◌∙◌, arith}
use Rattle.std.specs.Prelude.{Contains}
use Rattle.std.specs.List.{count_by}
use Rattle.std.proofs.lemmas.Bool.{cases_lt}
use Rattle.std.proofs.lemmas.List.Sums.{sum_by-cons}
use Rattle.simplex_types.specs.Quorums.{AreRising}
use Rattle.laws_safety.specs.Replicas.{AtLeastFrom}
use Rattle.laws_safety.proofs.lists.Splits.{Contains-cons_rest}

module _ {X G : Type 0} (P : ℕ → X → Type 0) where
  -- where P is true of the item at each of these indices, it is true of as many items
  pub at_least : (xs : List X) (i lowest : ℕ) (signed : List (ℕ × G)) → i ≤ lowest
      → AreRising (i + length xs) lowest signed
      → ((s : ℕ × G) → Contains signed s → (k : ℕ) (x : X) → slice_get xs k ≡ Some x → s.0 ≡ i + k → P s.0 x)
      → AtLeastFrom i (length signed) P xs
  at_least xs i lowest [] from rising has = tt
  at_least [] i lowest (s ∷ rest) from rising has = absurd (omega (arith, rising.0, rising.1))
  at_least (x ∷ xs) i lowest (s ∷ rest) from rising has =
      let wider : i + length (x ∷ xs) ≡ suc i + length xs = omega arith in
      let low : lowest ≤ s.0 = rising.0 in
      elim (cases_lt i s.0) [
        | inl later ↦ inr (at_least xs (suc i) s.0 (s ∷ rest) (omega arith)
            (subst (λ n. AreRising n s.0 (s ∷ rest)) wider (omega arith, rising.1, rising.2))
            (λ t among k y is at. has t among (suc k) y is (omega arith)))
        | inr here ↦
            let same : s.0 ≡ i = omega arith in
            inl (
              subst (λ j. P j x) same (has s (zero, omega arith, refl) 0 x refl (omega arith)),
              at_least xs (suc i) (s.0 + 1) rest (omega arith) (subst (λ n. AreRising n (s.0 + 1) rest) wider rising.2)
                  (λ t among k y is at. has t (Contains-cons_rest s rest t among) (suc k) y is (omega arith)),
            )
      ]

module _ {X Y : Type 0} (R : ℕ → X → Y → Type 0) where
  -- item by item, from this index on
  abbrev pub ArePairs : ℕ → List X → List Y → Type 0
  ArePairs i [] [] = Unit {0}
  ArePairs i (x ∷ xs) (y ∷ ys) = R i x y × ArePairs (suc i) xs ys
  ArePairs i [] (y ∷ ys) = ⊥
  ArePairs i (x ∷ xs) [] = ⊥

  pub paired : (xs : List X) (i : ℕ) → ((k : ℕ) (x : X) → slice_get xs k ≡ Some x → (y : Y) × R (i + k) x y)
      → (ys : List Y) × ArePairs i xs ys
  paired [] i each = ([], tt)
  paired (x ∷ xs) i each =
      let first = each 0 x refl in
      let rest = paired xs (suc i) (λ k y is. (
      let found = each (suc k) y is in
      let at : i + suc k ≡ suc i + k = omega arith in
      (found.0, subst (λ j. R j y found.0) at found.1))) in
      let here : i + 0 ≡ i = omega arith in
      (first.0 ∷ rest.0, (subst (λ j. R j x first.0) here first.1, rest.1))

  pub same_length : (xs : List X) (ys : List Y) (i : ℕ) → ArePairs i xs ys → length ys ≡ length xs
  same_length [] [] i are = refl
  same_length [] (y ∷ ys) i are = absurd are
  same_length (x ∷ xs) [] i are = absurd are
  same_length (x ∷ xs) (y ∷ ys) i are = let rest = same_length xs ys (suc i) are.1 in omega arith

  pub pair_at : (xs : List X) (ys : List Y) (i k : ℕ) (y : Y) → ArePairs i xs ys → slice_get ys k ≡ Some y
      → (x : X) × (slice_get xs k ≡ Some x) × R (i + k) x y
  pair_at [] [] i k y are is = absurd (cc)
  pair_at [] (z ∷ ys) i k y are is = absurd are
  pair_at (x ∷ xs) [] i k y are is = absurd are
  pair_at (x ∷ xs) (z ∷ ys) i zero y are is =
      let same : z ≡ y = cc in
      let here : i ≡ i + 0 = omega arith in
      (x, refl, subst (λ j. R j x y) here (subst (λ w. R i x w) same are.0))
  pair_at (x ∷ xs) (z ∷ ys) i (suc k) y are is =
      let found = pair_at xs ys (suc i) k y are.1 is in
      let at : suc i + k ≡ i + suc k = omega arith in
      (found.0, found.1, subst (λ j. R j found.0 y) at found.2)

  -- as many items of the second list have Q as of the first have P
  pub as_many : (P : ℕ → X → Type 0) (Q : ℕ → Y → Type 0) → ((j : ℕ) (x : X) (y : Y) → R j x y → P j x → Q j y)
      → (xs : List X) (ys : List Y) (i count : ℕ) → ArePairs i xs ys → AtLeastFrom i count P xs
      → AtLeastFrom i count Q ys
  as_many P Q each xs ys i zero are has = tt
  as_many P Q each [] ys i (suc count) are has = absurd has
  as_many P Q each (x ∷ xs) [] i (suc count) are has = absurd are
  as_many P Q each (x ∷ xs) (y ∷ ys) i (suc count) are (inl has) =
      inl (each i x y are.0 has.0, as_many P Q each xs ys (suc i) count are.1 has.1)
  as_many P Q each (x ∷ xs) (y ∷ ys) i (suc count) are (inr has) =
      inr (as_many P Q each xs ys (suc i) (suc count) are.1 has)

  -- as many pass a test of each
  pub same_count : (p : X → Bool) (q : Y → Bool) → ((j : ℕ) (x : X) (y : Y) → R j x y → q y ≡ p x)
      → (xs : List X) (ys : List Y) (i : ℕ) → ArePairs i xs ys → count_by q ys ≡ count_by p xs
  same_count p q each [] [] i are = refl
  same_count p q each [] (y ∷ ys) i are = absurd are
  same_count p q each (x ∷ xs) [] i are = absurd are
  same_count p q each (x ∷ xs) (y ∷ ys) i are =
      sum_by-cons (λ (z : Y). cond (q z) 1 0) y ys
      ∙ ap (λ b. cond b 1 0 + count_by q ys) (each i x y are.0)
      ∙ ap (λ n. cond (p x) 1 0 + n) (same_count p q each xs ys (suc i) are.1)
      ∙ sym (sum_by-cons (λ (z : X). cond (p z) 1 0) x xs)
