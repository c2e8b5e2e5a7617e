-- Blocks that are to be built: one a view, and what becomes of those that wait.
use Rattle.std.proofs.Common.{◌≡◌, ◌∙◌, refl, ap, sym, ℕ, inl, inr, Bool, true, false, not, cond, ◌||◌, ◌==◌, List, [], ◌∷◌, ◌++◌, map}
use Rattle.std.specs.List.{list_any}
use Rattle.std.proofs.lemmas.Bool.{false≢true, and_from, and_parts, eq-eqb, eqb-true, false_from_ne_true, not_from_false, not-true, or_cases, or_from, or_left, or_parts, or_right}
use Rattle.engine_planner.specs.declared.plan.builds.PendingBuild.{PendingBuild}
use Rattle.engine_planner.specs.Blocks.{views_built, one_a_view, all_but_at, in_place, reported_by, waits_for}

module _ {K D : Type 0} where
  -- what some of those that stay pass, some of all do
  pub views_left : (test : ℕ → Bool) (view : ℕ) (builds : List (PendingBuild D K))
      → list_any test (views_built (all_but_at view builds)) ≡ true → list_any test (views_built builds) ≡ true
  views_left test view [] some = some
  views_left test view (b ∷ rest) some = by_keep (not (b.context.round.view == view)) (views_left test view rest) some
    where
      by_keep : (keep : Bool)
          → (list_any test (views_built (all_but_at view rest)) ≡ true → list_any test (views_built rest) ≡ true)
          → list_any test (views_built (cond keep (b ∷ all_but_at view rest) (all_but_at view rest))) ≡ true
          → (test b.context.round.view || list_any test (views_built rest)) ≡ true
      by_keep true left some = elim (or_cases (test b.context.round.view) _ some) [
        | inl this ↦ or_left (test b.context.round.view) _ this
        | inr that ↦ or_right (test b.context.round.view) _ (left that)
      ]
      by_keep false left some = or_right (test b.context.round.view) _ (left some)

  -- none of the view is left
  none_left : (view : ℕ) (builds : List (PendingBuild D K))
      → list_any (λ v. v == view) (views_built (all_but_at view builds)) ≡ false
  none_left view [] = refl
  none_left view (b ∷ rest) = by_test (b.context.round.view == view) refl (none_left view rest)
    where
      by_test : (is : Bool) → (b.context.round.view == view) ≡ is
          → list_any (λ v. v == view) (views_built (all_but_at view rest)) ≡ false
          → list_any (λ v. v == view) (views_built (cond (not is) (b ∷ all_but_at view rest) (all_but_at view rest)))
          ≡ false
      by_test true at none = none
      by_test false other none = or_from (b.context.round.view == view) _ other none

  -- those that stay are of different views still
  pub left_once : (view : ℕ) (builds : List (PendingBuild D K)) → one_a_view builds ≡ true
      → one_a_view (all_but_at view builds) ≡ true
  left_once view [] once = once
  left_once view (b ∷ rest) once = by_keep (not (b.context.round.view == view)) (left_once view rest parts.1)
    where
      same : ℕ → Bool
      same v = v == b.context.round.view

      parts : (not (list_any same (views_built rest)) ≡ true) × (one_a_view rest ≡ true)
      parts = and_parts (not (list_any same (views_built rest))) (one_a_view rest) once

      by_keep : (keep : Bool) → one_a_view (all_but_at view rest) ≡ true
          → one_a_view (cond keep (b ∷ all_but_at view rest) (all_but_at view rest)) ≡ true
      by_keep true left =
          and_from (not (list_any same (views_built (all_but_at view rest)))) _
          (not_from_false _ (false_from_ne_true _
          (λ some. false≢true (sym (not-true _ parts.0) ∙ views_left same view rest some)))) left
      by_keep false left = left

  -- one more, of another view
  more_once : (builds : List (PendingBuild D K)) (b : PendingBuild D K) → one_a_view builds ≡ true
      → list_any (λ v. v == b.context.round.view) (views_built builds) ≡ false → one_a_view (builds ++ b ∷ []) ≡ true
  more_once [] b once none = refl
  more_once (first ∷ rest) b once none =
      let same : ℕ → Bool = λ v. v == first.context.round.view in
      let parts = and_parts (not (list_any same (views_built rest))) (one_a_view rest) once in
      let others = or_parts (first.context.round.view == b.context.round.view) _ none in
      and_from (not (list_any same (views_built (rest ++ b ∷ [])))) _
      (not_from_false _ (none_with same rest b (not-true _ parts.0)
      (other_way first.context.round.view b.context.round.view others.0)))
      (more_once rest b parts.1 others.1)
    where
      other_way : (v w : ℕ) → (v == w) ≡ false → (w == v) ≡ false
      other_way v w other = false_from_ne_true (w == v)
          (λ at. false≢true (sym other ∙ eq-eqb v w (sym (eqb-true w v at))))

      none_with : (test : ℕ → Bool) (builds : List (PendingBuild D K)) (b : PendingBuild D K)
          → list_any test (views_built builds) ≡ false → test b.context.round.view ≡ false
          → list_any test (views_built (builds ++ b ∷ [])) ≡ false
      none_with test [] b none other = or_from (test b.context.round.view) _ other refl
      none_with test (c ∷ rest) b none other =
          let parts = or_parts (test c.context.round.view) _ none in
          or_from (test c.context.round.view) _ parts.0 (none_with test rest b parts.1 other)

  pub put_once : (builds : List (PendingBuild D K)) (b : PendingBuild D K) → one_a_view builds ≡ true
      → one_a_view (in_place b builds) ≡ true
  put_once builds b once =
      more_once (all_but_at b.context.round.view builds) b (left_once b.context.round.view builds once)
      (none_left b.context.round.view builds)

  -- the views stay, of whichever the application was asked
  pub views_replied : (view : ℕ) (builds : List (PendingBuild D K))
      → views_built (map (reported_by view) builds) ≡ views_built builds
  views_replied view [] = refl
  views_replied view (b ∷ rest) = ap (λ views. b.context.round.view ∷ views) (views_replied view rest)

  pub replied_once : (view : ℕ) (builds : List (PendingBuild D K)) → one_a_view builds ≡ true
      → one_a_view (map (reported_by view) builds) ≡ true
  replied_once view [] once = once
  replied_once view (b ∷ rest) once =
      let same : ℕ → Bool = λ v. v == b.context.round.view in
      let parts = and_parts (not (list_any same (views_built rest))) (one_a_view rest) once in
      and_from (not (list_any same (views_built (map (reported_by view) rest)))) _
      (ap (λ views. not (list_any same views)) (views_replied view rest) ∙ parts.0)
      (replied_once view rest parts.1)

  -- a block of another view waits still
  pub left_waiting : (view other : ℕ) → (view == other) ≡ false → (builds : List (PendingBuild D K))
      → list_any (waits_for other) builds ≡ true → list_any (waits_for other) (all_but_at view builds) ≡ true
  left_waiting view other differs [] waits = waits
  left_waiting view other differs (b ∷ rest) waits =
      by_test (b.context.round.view == view) refl (left_waiting view other differs rest)
    where
      this : Bool
      this = waits_for other b

      not_this : (b.context.round.view == view) ≡ true → this ≡ true → ⊥
      not_this at is =
          let there = eqb-true b.context.round.view other
          (and_parts (not b.is_reported) (b.context.round.view == other) is).1 in
          false≢true (sym differs ∙ eq-eqb view other (sym (eqb-true b.context.round.view view at) ∙ there))

      by_test : (at : Bool) → (b.context.round.view == view) ≡ at
          → (list_any (waits_for other) rest ≡ true → list_any (waits_for other) (all_but_at view rest) ≡ true)
          → list_any (waits_for other) (cond (not at) (b ∷ all_but_at view rest) (all_but_at view rest)) ≡ true
      by_test true at left = elim (or_cases this _ waits) [
        | inl is ↦ absurd (not_this at is)
        | inr that ↦ left that
      ]
      by_test false others left = elim (or_cases this _ waits) [
        | inl is ↦ or_left this _ is
        | inr that ↦ or_right this _ (left that)
      ]
