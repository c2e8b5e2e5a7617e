-- Where the elements of a list are distinct by a test, so are those of its first part and those that pass another test,
-- and so
-- they are with one more that differs from each.
use Rattle.std.proofs.Common.{◌≡◌, refl, Bool, true, false, List, [], ◌∷◌, ◌++◌, Contains, filter, cond, arith}
use Rattle.std.specs.List.{AllByRecursion, IsDistinct}
use Rattle.laws_safety.proofs.lists.Splits.{Contains-cons_rest}

module _ {X : Type 0} (P : X → Type 0) where
  all_left : (xs ys : List X) → AllByRecursion P (xs ++ ys) → AllByRecursion P xs
  all_left [] ys all = tt
  all_left (x ∷ xs) ys all = (all.0, all_left xs ys all.1)

  all_push : (xs : List X) (y : X) → AllByRecursion P xs → P y → AllByRecursion P (xs ++ y ∷ [])
  all_push [] y all holds = (holds, tt)
  all_push (x ∷ xs) y all holds = (all.0, all_push xs y all.1 holds)

  all_filtered : (test : X → Bool) (xs : List X) → AllByRecursion P xs → AllByRecursion P (filter test xs)
  all_filtered test [] all = tt
  all_filtered test (x ∷ xs) all = elim (test x) as
      (λ b. AllByRecursion P (cond b (x ∷ filter test xs) (filter test xs))) [
        | true ↦ (all.0, all_filtered test xs all.1)
        | false ↦ all_filtered test xs all.1
      ]

module _ {X : Type 0} (alike : X → X → Bool) where
  pub distinct_left : (xs ys : List X) → IsDistinct alike (xs ++ ys) → IsDistinct alike xs
  unfolding IsDistinct
  distinct_left [] ys distinct = tt
  distinct_left (x ∷ xs) ys distinct =
      (all_left (λ y. alike x y ≡ false) xs ys distinct.0, distinct_left xs ys distinct.1)

  pub distinct_filtered : (test : X → Bool) (xs : List X) → IsDistinct alike xs → IsDistinct alike (filter test xs)
  unfolding IsDistinct
  distinct_filtered test [] distinct = tt
  distinct_filtered test (x ∷ xs) distinct =
      elim (test x) as (λ b. IsDistinct alike (cond b (x ∷ filter test xs) (filter test xs))) [
        | true ↦ (all_filtered (λ y. alike x y ≡ false) test xs distinct.0, distinct_filtered test xs distinct.1)
        | false ↦ distinct_filtered test xs distinct.1
      ]

  pub distinct_push : (xs : List X) (y : X) → ((x : X) → Contains xs x → alike x y ≡ false) → IsDistinct alike xs
      → IsDistinct alike (xs ++ y ∷ [])
  unfolding IsDistinct
  distinct_push [] y new distinct = (tt, tt)
  distinct_push (x ∷ xs) y new distinct = (
    all_push (λ z. alike x z ≡ false) xs y distinct.0 (new x (0, omega arith, refl)),
    distinct_push xs y (λ z h. new z (Contains-cons_rest x xs z h)) distinct.1,
  )
