-- Entries of a sorted list are found there by their keys.
use Rattle.std.proofs.Common.{◌≡◌, ℕ, ◌<◌, ◌≤◌, Bool, true, false, ◌&&◌, ◌||◌, not, ltb, leb, eqb, cond, List, [], ◌∷◌, filter, Option, Some, None, slice_get, is_some, refl, ap, sym, ◌∙◌, inl, inr, arith}
use Rattle.std.specs.Prelude.{unwrap_or}
use Rattle.std.specs.List.{filter_map, cons_option, list_any}
use Rattle.std.specs.Ordering.{nat_cmp}
use Rattle.std.specs.FinMap.Entries.{find}
use Rattle.std.proofs.lemmas.Bool.{cases_eq, cases_order, eq-eqb, ne_eqb, lt-ltb, le-ltb, false≢true}
use Rattle.std.proofs.lemmas.Bool.Decides.{nat_tests}
use Rattle.simplex_view_maps.proofs.Maps.{is_eq-nat_cmp}
use Rattle.simplex_view_maps.proofs.RisingEntries.{AllAbove, Rises, find_above}
use Rattle.simplex_voter.specs.Verification.{through}
use Rattle.simplex_voter.proofs.Gaps.{cases_bool}

le_of : (a b : ℕ) → leb a b ≡ true → a ≤ b
le_of a b low = grind (arith, nat_tests)

apart_of : (a b : ℕ) → leb a b ≡ false → eqb a b ≡ false
apart_of a b high = grind (arith, nat_tests)

module _ {V : Type 0} where
  abbrev pub AreFound : List (ℕ × V) → List (ℕ × V) → Type 0
  AreFound all [] = Unit {0}
  AreFound all (e ∷ es) = (find nat_cmp e.0 all ≡ Some e.1) × AreFound all es

  found_first : (e : ℕ × V) (es : List (ℕ × V)) → find nat_cmp e.0 (e ∷ es) ≡ Some e.1
  found_first e es = ap (λ b. cond b (Some e.1) (find nat_cmp e.0 es)) (is_eq-nat_cmp e.0 e.0 ∙ eq-eqb e.0 e.0 refl)

  found_other : (q : ℕ) (e : ℕ × V) (es : List (ℕ × V)) → eqb q e.0 ≡ false
      → find nat_cmp q (e ∷ es) ≡ find nat_cmp q es
  found_other q e es apart = ap (λ b. cond b (Some e.1) (find nat_cmp q es)) (is_eq-nat_cmp q e.0 ∙ apart)

  found_behind : (e : ℕ × V) (es rest : List (ℕ × V)) → AllAbove e.0 rest → AreFound es rest → AreFound (e ∷ es) rest
  found_behind e es [] above found = tt
  found_behind e es (f ∷ rest) above found =
      let apart : eqb f.0 e.0 ≡ false = ne_eqb f.0 e.0 (λ same. absurd (omega (arith, above.0, same))) in
      (found_other f.0 e es apart ∙ found.0, found_behind e es rest above.1 found.1)

  pub found_each : (es : List (ℕ × V)) → Rises es → AreFound es es
  found_each [] r = tt
  found_each (e ∷ es) r = (found_first e es, found_behind e es es r.0 (found_each es r.1))

  pub found_filtered : (all es : List (ℕ × V)) (test : ℕ × V → Bool) → AreFound all es → AreFound all (filter test es)
  found_filtered all [] test found = tt
  found_filtered all (e ∷ es) test found =
      let behind : AreFound all (filter test es) = found_filtered all es test found.1 in
      elim (test e) as (λ b. AreFound all (cond b (e ∷ filter test es) (filter test es)))
      [ true ↦ (found.0, behind) | false ↦ behind ]

  -- the first value of a walk is given by an entry that is found
  pub first_giver : {B : Type 0} (h : ℕ × V → Option B) (all es : List (ℕ × V)) (b : B) → AreFound all es
      → slice_get (filter_map h es) 0 ≡ Some b → (e : ℕ × V) × (find nat_cmp e.0 all ≡ Some e.1) × (h e ≡ Some b)
  first_giver h all [] b found is = absurd (false≢true (ap is_some is))
  first_giver {B} h all (e ∷ es) b found is = by_value (first_giver h all es b found.1) (h e) refl is
    where
      by_value : (slice_get (filter_map h es) 0 ≡ Some b
          → (d : ℕ × V) × (find nat_cmp d.0 all ≡ Some d.1) × (h d ≡ Some b)) → (o : Option B) → h e ≡ o
          → slice_get (cons_option o (filter_map h es)) 0 ≡ Some b
          → (d : ℕ × V) × (find nat_cmp d.0 all ≡ Some d.1) × (h d ≡ Some b)
      by_value behind None here is = behind is
      by_value behind (Some c) here is = (e, found.0, here ∙ is)

  AllAbove-filtered : (x : ℕ) (test : ℕ × V → Bool) (es : List (ℕ × V)) → AllAbove x es → AllAbove x (filter test es)
  AllAbove-filtered x test [] above = tt
  AllAbove-filtered x test (e ∷ es) above =
      let behind : AllAbove x (filter test es) = AllAbove-filtered x test es above.1 in
      elim (test e) as (λ b. AllAbove x (cond b (e ∷ filter test es) (filter test es)))
      [ true ↦ (above.0, behind) | false ↦ behind ]

  pub rises-filtered : (test : ℕ × V → Bool) (es : List (ℕ × V)) → Rises es → Rises (filter test es)
  rises-filtered test [] r = tt
  rises-filtered test (e ∷ es) r =
      let behind : Rises (filter test es) = rises-filtered test es r.1 in
      elim (test e) as (λ b. Rises (cond b (e ∷ filter test es) (filter test es)))
      [ true ↦ (AllAbove-filtered e.0 test es r.0, behind) | false ↦ behind ]

  -- a key that passes is found among those that remain
  pub find-filtered : (p : ℕ → Bool) (q : ℕ) (es : List (ℕ × V))
      → find nat_cmp q (filter (λ e. p e.0) es) ≡ cond (p q) (find nat_cmp q es) None
  find-filtered p q [] = elim (p q) as (λ b. ◌≡◌ {A = Option V} None (cond b None None)) [ true ↦ refl | false ↦ refl ]
  find-filtered p q (e ∷ es) = elim (cases_eq q e.0) [
    | inl same ↦ elim (cases_bool (p e.0)) [
      | inl passes ↦
          rw (passes, ap p same ∙ passes) (
          found_at e (filter (λ f. p f.0) es) q same ∙ sym (found_at e es q same))
      | inr fails ↦ rw (fails, ap p same ∙ fails) (find-filtered p q es ∙ rw (ap p same ∙ fails) refl)
    ]
    | inr other ↦ elim (cases_bool (p e.0)) [
      | inl passes ↦
          rw passes (
          found_other q e (filter (λ f. p f.0) es) (ne_eqb q e.0 other) ∙ find-filtered p q es
          ∙ ap (λ o. cond (p q) o None) (sym (found_other q e es (ne_eqb q e.0 other))))
      | inr fails ↦
          rw fails (
          find-filtered p q es
          ∙ ap (λ o. cond (p q) o None) (sym (found_other q e es (ne_eqb q e.0 other))))
    ]
  ]
    where
      found_at : (e : ℕ × V) (es : List (ℕ × V)) (q : ℕ) → q ≡ e.0 → find nat_cmp q (e ∷ es) ≡ Some e.1
      found_at e es q same = ap (λ k. find nat_cmp k (e ∷ es)) same ∙ found_first e es

  -- tests over all entries, by what is found
  pub any_there : (test : ℕ × V → Bool) (es : List (ℕ × V)) (q : ℕ) (r : V) → find nat_cmp q es ≡ Some r
      → test (q, r) ≡ true → list_any test es ≡ true
  any_there test [] q r is passes = absurd (false≢true (ap is_some is))
  any_there test (e ∷ es) q r is passes = elim (cases_eq q e.0) [
    | inl same ↦
        let at : Some e.1 ≡ Some r = sym (ap (λ k. find nat_cmp k (e ∷ es)) same ∙ found_first e es) ∙ is in
        let value : e.1 ≡ r = ap (λ o. unwrap_or o r) at in
        let here : test e ≡ true = (λ i. test (sym same i, value i)) ∙ passes in
        rw here refl
    | inr other ↦
        let behind = any_there test es q r (sym (found_other q e es (ne_eqb q e.0 other)) ∙ is) passes in
        elim (test e) as (λ b. (b || list_any test es) ≡ true) [ true ↦ refl | false ↦ behind ]
  ]

  pub any_nowhere : (test : ℕ × V → Bool) (all es : List (ℕ × V)) → AreFound all es
      → ((q : ℕ) (r : V) → find nat_cmp q all ≡ Some r → test (q, r) ≡ false) → list_any test es ≡ false
  any_nowhere test all [] found fails = refl
  any_nowhere test all (e ∷ es) found fails = rw (fails e.0 e.1 found.0) (any_nowhere test all es found.1 fails)

  -- no entry gives anything
  pub nothing_given : {B : Type 0} (h : ℕ × V → Option B) (all es : List (ℕ × V)) → AreFound all es
      → ((q : ℕ) (r : V) → find nat_cmp q all ≡ Some r → h (q, r) ≡ None) → slice_get (filter_map h es) 0 ≡ None
  nothing_given h all [] found none = refl
  nothing_given h all (e ∷ es) found none = rw (none e.0 e.1 found.0) (nothing_given h all es found.1 none)

  -- the first value comes from the lowest entry that gives one
  pub first_given : {B : Type 0} (h : ℕ × V → Option B) (es : List (ℕ × V)) (v : ℕ) (r : V) → Rises es
      → find nat_cmp v es ≡ Some r → is_some (h (v, r)) ≡ true
      → ((q : ℕ) (s : V) → q < v → find nat_cmp q es ≡ Some s → h (q, s) ≡ None)
      → slice_get (filter_map h es) 0 ≡ h (v, r)
  first_given h [] v r rise is gives none = absurd (false≢true (ap is_some is))
  first_given {B} h (e ∷ es) v r rise is gives none = elim (cases_order v e.0) [
    | inl same ↦
        let at : Some e.1 ≡ Some r = sym (ap (λ k. find nat_cmp k (e ∷ es)) same ∙ found_first e es) ∙ is in
        let value : e.1 ≡ r = ap (λ o. unwrap_or o r) at in
        let here : h e ≡ h (v, r) = λ i. h (sym same i, value i) in
        rw here (by_value (h (v, r)) gives)
    | inr (inl lower) ↦
        let absent = found_other v e es (ne_eqb v e.0 (λ same. absurd (omega (arith, lower, same))))
        ∙ find_above v e.0 es (omega (arith, lower)) rise.0 in
        absurd (false≢true (ap is_some (sym absent ∙ is)))
    | inr (inr higher) ↦
        let behind = sym (found_other v e es (ne_eqb v e.0 (λ same. absurd (omega (arith, higher, same))))) ∙ is in
        rw (none e.0 e.1 higher (found_first e es))
        (first_given h es v r rise.1 behind gives (λ q s low there. none q s low (later q s there)))
  ]
    where
      by_value : (o : Option B) → is_some o ≡ true → slice_get (cons_option o (filter_map h es)) 0 ≡ o
      by_value None some = absurd (false≢true some)
      by_value (Some b) some = refl

      later : (q : ℕ) (s : V) → find nat_cmp q es ≡ Some s → find nat_cmp q (e ∷ es) ≡ Some s
      later q s there = elim (cases_bool (leb q e.0)) [
        | inl low ↦ absurd (false≢true (ap is_some (sym (find_above q e.0 es (le_of q e.0 low) rise.0) ∙ there)))
        | inr high ↦ found_other q e es (apart_of q e.0 high) ∙ there
      ]

  -- nothing at or above a key that all are above
  none_lower : (t : ℕ × V → Bool) (q x : ℕ) (es : List (ℕ × V)) → q ≤ x → AllAbove x es
      → list_any (λ d. ltb d.0 q && t d) es ≡ false
  none_lower t q x [] low above = refl
  none_lower t q x (e ∷ es) low above = rw (le-ltb e.0 q (omega (arith, low, above.0)))
      (none_lower t q x es low above.1)

  -- a walk comes to a view that is there, unless a lower one ends it
  pub any-through : (t : ℕ × V → Bool) (q : ℕ) (es : List (ℕ × V)) → Rises es
      → list_any (λ e. eqb q e.0) (through t es)
      ≡ (is_some (find nat_cmp q es) && not (list_any (λ d. ltb d.0 q && t d) es))
  any-through t q [] rise = refl
  any-through t q (e ∷ es) rise = elim (cases_order q e.0) [
    | inl same ↦
        let at : find nat_cmp q (e ∷ es) ≡ Some e.1 = ap (λ k. find nat_cmp k (e ∷ es)) same ∙ found_first e es in
        let fresh : list_any (λ d. ltb d.0 q && t d) es ≡ false = none_lower t q e.0 es (omega (arith, same)) rise.0 in
        rw (at, le-ltb e.0 q (omega (arith, same)), fresh) (here (eq-eqb q e.0 same) (t e))
    | inr (inl lower) ↦
        let apart : eqb q e.0 ≡ false = ne_eqb q e.0 (λ same. absurd (omega (arith, lower, same))) in
        let behind : find nat_cmp q es ≡ None = find_above q e.0 es (omega (arith, lower)) rise.0 in
        let rest : list_any (λ f. eqb q f.0) (through t es) ≡ false = any-through t q es rise.1
        ∙ ap (λ o. is_some o && not (list_any (λ d. ltb d.0 q && t d) es)) behind in
        rw (found_other q e es apart ∙ behind) (passed apart rest (t e))
    | inr (inr higher) ↦
        let apart : eqb q e.0 ≡ false = ne_eqb q e.0 (λ same. absurd (omega (arith, higher, same))) in
        rw (found_other q e es apart, lt-ltb e.0 q higher) (after (any-through t q es rise.1) apart (t e))
  ]
    where
      here : eqb q e.0 ≡ true → (b : Bool) → list_any (λ f. eqb q f.0) (cond b (e ∷ []) (e ∷ through t es)) ≡ true
      here same true = rw same refl
      here same false = rw same refl

      passed : eqb q e.0 ≡ false → list_any (λ f. eqb q f.0) (through t es) ≡ false → (b : Bool)
          → list_any (λ f. eqb q f.0) (cond b (e ∷ []) (e ∷ through t es)) ≡ false
      passed apart rest true = rw apart refl
      passed apart rest false = rw apart rest

      never : (b : Bool) → false ≡ (b && false)
      never true = refl
      never false = refl

      after : list_any (λ f. eqb q f.0) (through t es)
          ≡ (is_some (find nat_cmp q es) && not (list_any (λ d. ltb d.0 q && t d) es)) → eqb q e.0 ≡ false → (b : Bool)
          → list_any (λ f. eqb q f.0) (cond b (e ∷ []) (e ∷ through t es))
          ≡ (is_some (find nat_cmp q es) && not (b || list_any (λ d. ltb d.0 q && t d) es))
      after behind apart true = rw apart (never (is_some (find nat_cmp q es)))
      after behind apart false = rw apart behind
