-- A walk over the tracked views that changes each value up to a view.
use Rattle.std.proofs.Common.{◌≡◌, ℕ, ◌+◌, ◌<◌, ◌≤◌, Bool, true, false, cond, ◌&&◌, ltb, leb, List, [], ◌∷◌, Option, Some, None, slice_get, refl, ap, sym, ◌∙◌, subst, T, ◌⊎◌, inl, inr, arith}
use Rattle.std.specs.Prelude.{map as map_list, option_map}
use Rattle.std.specs.Ordering.{nat_cmp, is_lt}
use Rattle.std.proofs.lemmas.Bool.Decides.{nat_tests}
use Rattle.std.specs.FinMap as map
use Rattle.std.specs.FinMap.{FinMap}
use Rattle.std.specs.FinMap.Entries.{find, is_sorted, below_all}
use Rattle.std.proofs.lemmas.Bool.{cases_eq, cases_lt, cases_order, leb-true, lt-ltb, le-ltb, le-leb, eq-eqb, ne_eqb}
use Rattle.simplex_view_maps.specs.Tracked.{at_or_above, first_entry}
use Rattle.simplex_view_maps.proofs.RisingEntries.{Rises, find_above}
use Rattle.simplex_view_maps.proofs.Maps.{is_eq-nat_cmp, get-insert, get-kept, map_rises, same_maps}

module _ {V : Type 0} where
  pub first_of : (es : List (ℕ × V)) → Rises es → (e : ℕ × V) → Some e ≡ slice_get es 0
      → (find nat_cmp e.0 es ≡ Some e.1) × ((q : ℕ) → q < e.0 → find nat_cmp q es ≡ None)
  first_of [] rises e is = cc
  first_of (f ∷ es) rises e is =
      let same : e ≡ f = cc in
      rw same (
        rw (is_eq-nat_cmp f.0 f.0, eq-eqb f.0 f.0 refl) refl,
        λ q lower. rw (is_eq-nat_cmp q f.0, ne_eqb q f.0 (omega arith)) (find_above q f.0 es (omega arith) rises.0),
      )

  pub none_of : (es : List (ℕ × V)) → None ≡ slice_get es 0 → (q : ℕ) → find nat_cmp q es ≡ None
  none_of [] is q = refl
  none_of (f ∷ es) is q = cc

  kept_value : (b : Bool) (o : Option V) (x : V) → cond b o None ≡ Some x → (b ≡ true) × (o ≡ Some x)
  kept_value true o x is = (refl, is)
  kept_value false o x is = cc

  module _ (m : FinMap nat_cmp V) (v : ℕ) where
    get_kept : (q : ℕ) → map.get (at_or_above m v) q ≡ cond (leb v q) (map.get m q) None
    get_kept q = get-kept m (λ u. leb v u) q

    -- the first entry at or above v is at or above it and there, and no view from v up to it is
    pub at_first : (e : ℕ × V) → Some e ≡ first_entry (at_or_above m v)
        → (v ≤ e.0) × (map.get m e.0 ≡ Some e.1) × ((q : ℕ) → v ≤ q → q < e.0 → map.get m q ≡ None)
    at_first e is =
        let first = first_of _ (map_rises (at_or_above m v)) e is in
        let here = kept_value _ _ _ (sym (get_kept e.0) ∙ map.get-entries _ e.0 ∙ first.0) in (
          leb-true v e.0 here.0,
          here.1,
          λ q within lower. sym (rw (le-leb v q within) at (get_kept q))
              ∙ map.get-entries _ q ∙ first.1 q lower,
        )

    pub at_none : None ≡ first_entry (at_or_above m v) → (q : ℕ) → v ≤ q → map.get m q ≡ None
    at_none is q within = sym (rw (le-leb v q within) at (get_kept q)) ∙ map.get-entries _ q ∙ none_of _ is q

module _ {V : Type 0} (o m : FinMap nat_cmp V) (f : V → V) where
  -- the values below n are changed
  abbrev pub Walked : ℕ → Type 0
  Walked n = (q : ℕ) → map.get m q ≡ cond (ltb q n) (option_map f (map.get o q)) (map.get o q)

  -- there is nothing between n and v
  pub walked_on : (n v : ℕ) → n ≤ v → ((q : ℕ) → n ≤ q → q < v → map.get m q ≡ None) → Walked n → Walked v
  walked_on n v h none done q = elim (cases_lt q v) [
    | inr above ↦ done q ∙ rw (le-ltb q n (omega arith), le-ltb q v above) refl
    | inl lower ↦ elim (cases_lt q n) [
      | inl early ↦ done q ∙ rw (lt-ltb q n early, lt-ltb q v lower) refl
      | inr late ↦
          let empty : map.get o q ≡ None = sym (rw (le-ltb q n late) at (done q)) ∙ none q late lower in
          rw (lt-ltb q v lower, empty) (none q late lower)
    ]
  ]

-- a walk begins where no value below is changed
pub walk_begins : {V : Type 0} (o : FinMap nat_cmp V) (f : V → V) (n : ℕ)
    → ((q : ℕ) (r : V) → map.get o q ≡ Some r → q < n → f r ≡ r) → Walked o o f n
walk_begins o f n quiet q = by_test (cases_lt q n)
  where
    by_value : (r : Option _) → map.get o q ≡ r → q < n → r ≡ option_map f r
    by_value None is below = refl
    by_value (Some r) is below = ap Some (sym (quiet q r is below))

    by_test : (q < n) ⊎ (n ≤ q) → map.get o q ≡ cond (ltb q n) (option_map f (map.get o q)) (map.get o q)
    by_test (inl below) = rw (lt-ltb q n below) (by_value (map.get o q) refl below)
    by_test (inr above) = rw (le-ltb q n above) refl

-- the first value at or above n is changed
pub walked_step : {V : Type 0} (o m : FinMap nat_cmp V) (f : V → V) (n : ℕ) (e : ℕ × V)
    → Some e ≡ first_entry (at_or_above m n) → Walked o m f n → Walked o (map.insert m e.0 (f e.1)) f (e.0 + 1)
walked_step o m f n e is done q =
    let first = at_first m n e is in
    let up = walked_on o m f n e.0 first.0 first.2 done in
    get-insert m e.0 (f e.1) q ∙ elim (cases_order q e.0) [
      | inl same ↦ rw (
        same,
        eq-eqb e.0 e.0 refl,
        lt-ltb e.0 (e.0 + 1) (omega arith),
        sym (rw (le-ltb e.0 e.0 (omega arith)) at (up e.0)) ∙ first.1,
      ) refl
      | inr (inl lower) ↦ rw (ne_eqb q e.0 (omega arith), lt-ltb q (e.0 + 1) (omega arith))
          (up q ∙ rw (lt-ltb q e.0 lower) refl)
      | inr (inr higher) ↦ rw (ne_eqb q e.0 (omega arith), le-ltb q (e.0 + 1) (omega arith))
          (up q ∙ rw (le-ltb q e.0 (omega arith)) refl)
    ]

next_test : (q v : ℕ) → ltb q (v + 1) ≡ leb q v
next_test q v = grind (arith, nat_tests)

-- the entries with each value changed by its view
module _ {V : Type 0} (h : ℕ → V → V) where
  abbrev pub changed : ℕ × V → ℕ × V
  changed e = (e.0, h e.0 e.1)

  below-changed : (x : ℕ) (es : List (ℕ × V)) → below_all nat_cmp x (map_list changed es) ≡ below_all nat_cmp x es
  below-changed x [] = refl
  below-changed x (e ∷ es) = ap (λ b. is_lt (nat_cmp x e.0) && b) (below-changed x es)

  pub sorted-changed : (es : List (ℕ × V)) → is_sorted nat_cmp (map_list changed es) ≡ is_sorted nat_cmp es
  sorted-changed [] = refl
  sorted-changed (e ∷ es) = rw (below-changed e.0 es, sorted-changed es) refl

  pub find-changed : (q : ℕ) (es : List (ℕ × V))
      → find nat_cmp q (map_list changed es) ≡ option_map (h q) (find nat_cmp q es)
  find-changed q [] = refl
  find-changed q (e ∷ es) = rw (is_eq-nat_cmp q e.0) (elim (cases_eq q e.0) [
    | inl same ↦ rw (eq-eqb q e.0 same) (ap (λ k. Some (h k e.1)) (sym same))
    | inr other ↦ rw (ne_eqb q e.0 other) (find-changed q es)
  ])

  pub entries-changed : (o m : FinMap nat_cmp V) → ((q : ℕ) → map.get m q ≡ option_map (h q) (map.get o q))
      → map.entries m ≡ map_list changed (map.entries o)
  entries-changed o m each =
      let sorted : T (is_sorted nat_cmp (map_list changed (map.entries o))) =
      subst T (sym (sorted-changed (map.entries o))) (map.entries_sorted o) in
      let made : m ≡ map.from_sorted (map_list changed (map.entries o)) = same_maps _ _ (λ q.
      each q ∙ ap (option_map (h q)) (map.get-entries o q)
      ∙ sym (map.get-from_sorted nat_cmp _ q sorted ∙ find-changed q (map.entries o))) in
      ap map.entries made ∙ map.entries-from_sorted nat_cmp _ sorted

-- the walk has passed v
pub walked_entries : {V : Type 0} (o m : FinMap nat_cmp V) (f : V → V) (v : ℕ) → Walked o m f (v + 1)
    → map.entries m ≡ map_list (λ e. (e.0, cond (leb e.0 v) (f e.1) e.1)) (map.entries o)
walked_entries o m f v done = entries-changed (λ u r. cond (leb u v) (f r) r) o m
    (λ q. done q ∙ rw (next_test q v) (by_value (leb q v) (map.get o q)))
  where
    by_value : (b : Bool) (r : Option _) → cond b (option_map f r) r ≡ option_map (λ s. cond b (f s) s) r
    by_value true None = refl
    by_value true (Some x) = refl
    by_value false None = refl
    by_value false (Some x) = refl
