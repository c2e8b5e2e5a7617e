-- Where the first gap is, and how stretches without a gap join.
use Rattle.std.proofs.Common.{◌≡◌, ◌⊎◌, ℕ, zero, suc, ◌+◌, ◌<◌, ◌≤◌, Bool, true, false, ◌&&◌, ◌||◌, not, ltb, leb, eqb, List, [], ◌∷◌, Option, Some, None, filter, refl, ap, sym, subst, ◌∙◌, inl, inr, arith, eq-eqb}
use Rattle.std.specs.Prelude.{map, min, unwrap_or, MatchOption, is_some}
use Rattle.std.specs.List.{list_any}
use Rattle.std.specs.Ordering.{nat_cmp, match_ordering}
use Rattle.std.specs.declared.cmp.Ordering.TheVariants.{Less, Equal, Greater}
use Rattle.std.specs.BTreeSet.{insert_key}
use Rattle.std.proofs.lemmas.Bool.{cases_lt, eqb-true, false≢true}
use Rattle.std.proofs.lemmas.Bool.Decides.{nat_tests}
use Rattle.simplex_types.specs.Terms.{term_start, next_term_start, covers}
use Rattle.simplex_types.proofs.Covers.{same_start}
use Rattle.simplex_view_maps.proofs.Gaps.{next_above}
use Rattle.simplex_voter.specs.Facts.{StateFacts}
use Rattle.simplex_voter.specs.Acceptance.{nullified_also}
use Rattle.simplex_voter.specs.Gaps.{is_covered, IsGapless, IsFirstGap, lower_of, lowest, gap_starts, is_gap, first_unnullified_view}

pub cases_bool : (b : Bool) → (b ≡ true) ⊎ (b ≡ false)
cases_bool true = inl refl
cases_bool false = inr refl

pub or_right : (b c : Bool) → c ≡ true → (b || c) ≡ true
or_right true c h = refl
or_right false c h = h

pub or_none : (b c : Bool) → (b || c) ≡ false → (b ≡ false) × (c ≡ false)
or_none true c h = absurd (false≢true (sym h))
or_none false c h = (refl, h)

pub and_parts : (b c : Bool) → (b && c) ≡ true → (b ≡ true) × (c ≡ true)
and_parts true c h = (refl, h)
and_parts false c h = absurd (false≢true h)

pub and_both : (b c : Bool) → b ≡ true → c ≡ true → (b && c) ≡ true
and_both true c p q = q
and_both false c p q = absurd (false≢true p)

pub not_true : (b : Bool) → not b ≡ true → b ≡ false
not_true true h = absurd (false≢true h)
not_true false h = refl

pub cases_option : {A : Type 0} (o : Option A) → (o ≡ None) ⊎ ((a : A) × (o ≡ Some a))
cases_option None = inl refl
cases_option (Some a) = inr (a, refl)

-- the list has the element
abbrev pub IsIn : ℕ → List ℕ → Type 0
IsIn v views = list_any (λ w. eqb w v) views ≡ true

some_of : (test : ℕ → Bool) (us : List ℕ) → list_any test us ≡ true → (u : ℕ) × IsIn u us × (test u ≡ true)
some_of test [] h = absurd (false≢true h)
some_of test (u ∷ us) h = elim (cases_bool (test u)) [
  | inl here ↦ (u, rw (eq-eqb u u refl) refl, here)
  | inr other ↦
      let found = some_of test us (rw other at h) in
      (found.0, or_right (eqb u found.0) _ found.1, found.2)
]

none_of : (test : ℕ → Bool) (us : List ℕ) (u : ℕ) → list_any test us ≡ false → IsIn u us → test u ≡ false
none_of test [] u h is = absurd (false≢true is)
none_of test (v ∷ us) u h is = elim (cases_bool (eqb v u)) [
  | inl same ↦ let e : v ≡ u = eqb-true v u same in subst (λ w. test w ≡ false) e (or_none (test v) _ h).0
  | inr other ↦ none_of test us u (or_none (test v) _ h).1 (rw other at is)
]

in_map : (f : ℕ → ℕ) (us : List ℕ) (u : ℕ) → IsIn u us → IsIn (f u) (map f us)
in_map f [] u is = absurd (false≢true is)
in_map f (v ∷ us) u is = elim (cases_bool (eqb v u)) [
  | inl same ↦ let e : v ≡ u = eqb-true v u same in rw (eq-eqb (f v) (f u) (ap f e)) refl
  | inr other ↦ or_right (eqb (f v) (f u)) _ (in_map f us u (rw other at is))
]

module _ (test : ℕ → Bool) where
  lower_passes : (v : ℕ) (o : Option ℕ) (w : ℕ) → test v ≡ true → ((m : ℕ) → o ≡ Some m → test m ≡ true)
      → lower_of v o ≡ Some w → test w ≡ true
  lower_passes v None w here rest e = subst (λ o. test (unwrap_or o v) ≡ true) e here
  lower_passes v (Some m) w here rest e =
      let is : min v m ≡ w = ap (λ o. unwrap_or o 0) e in
      elim (cases_lt v m) [
        | inl below ↦ let same : v ≡ w = omega arith in subst (λ n. test n ≡ true) same here
        | inr above ↦ let same : m ≡ w = omega arith in subst (λ n. test n ≡ true) same (rest m refl)
      ]

  -- the lowest of those that pass passes
  lowest_passes : (ws : List ℕ) (w : ℕ) → lowest (filter test ws) ≡ Some w → test w ≡ true
  lowest_passes [] w e = absurd (false≢true (ap is_some e))
  lowest_passes (v ∷ ws) w e = elim (cases_bool (test v)) [
    | inl here ↦ lower_passes v (lowest (filter test ws)) w here (lowest_passes ws) (rw here at e)
    | inr other ↦ lowest_passes ws w (rw other at e)
  ]

  -- a view that passes is not below it
  lowest_least : (ws : List ℕ) (u : ℕ) → IsIn u ws → test u ≡ true
      → (w : ℕ) × (lowest (filter test ws) ≡ Some w) × (w ≤ u)
  lowest_least [] u is here = absurd (false≢true is)
  lowest_least (v ∷ ws) u is here = elim (cases_bool (eqb v u)) [
    | inl same ↦
        let e : v ≡ u = eqb-true v u same in
        let passes : test v ≡ true = rw e here in
        elim (cases_option (lowest (filter test ws))) [
          | inl none ↦ (v, rw (passes, none) refl, omega arith)
          | inr found ↦ (min v found.0, rw (passes, found.1) refl, omega arith)
        ]
    | inr other ↦
        let rest = lowest_least ws u (rw other at is) here in
        elim (cases_bool (test v)) [
          | inl passes ↦ (min v rest.0, rw (passes, rest.1) refl, omega arith)
          | inr fails ↦ (rest.0, rw fails rest.1, rest.2)
        ]
  ]

module _ {K L D : Type 0} (x : StateFacts K L D) where
  abbrev length : ℕ
  length = x.terms.term_length

  -- a view after a covered one is covered too, or starts the next term
  next_of_covered : (w u : ℕ) → 0 < length → 1 ≤ w → covers length u w ≡ true → covers length u (w + 1) ≡ false
      → w + 1 ≡ next_term_start length u
  next_of_covered w u some one covered uncovered =
      let parts = and_parts (leb u w) _ covered in
      let below : u ≤ w = grind (arith, nat_tests) in
      let starts : term_start length u ≡ term_start length w = eqb-true _ _ parts.1 in
      let above : w < next_term_start length w = next_above length w some one in
      elim (cases_lt (w + 1) (next_term_start length w)) [
        | inl inside ↦
            let same : term_start length (w + 1) ≡ term_start length w =
            same_start length w (w + 1) one (omega arith) inside in
            let at_or_below : leb u (w + 1) ≡ true = grind (arith, nat_tests) in
            let covers_it : covers length u (w + 1) ≡ true =
            and_both (leb u (w + 1)) _ at_or_below (eq-eqb _ _ (starts ∙ sym same)) in
            absurd (false≢true (sym uncovered ∙ covers_it))
        | inr past ↦
            let next : w + 1 ≡ next_term_start length w = omega arith in
            rw starts next
      ]

  -- below an uncovered view, or there, is one where a gap may begin
  gap_start_below : (p v : ℕ) → 0 < length → (w : ℕ) → p < w → w < v → is_covered x w ≡ false
      → (c : ℕ) × IsIn c (gap_starts x p) × (is_gap x p v c ≡ true) × (c ≤ w)
  gap_start_below p v some zero low high uncovered = absurd (omega arith)
  gap_start_below p v some (suc w) low high uncovered =
      let gap : is_gap x p v (suc w) ≡ true = rw uncovered (grind (arith, nat_tests)) in
      elim (cases_lt p w) [
        | inr first ↦
            let is : p + 1 ≡ suc w = omega arith in
            (suc w, rw (eq-eqb (p + 1) (suc w) is) refl, gap, omega arith)
        | inl behind ↦ elim (cases_bool (is_covered x w)) [
          | inl covered ↦
              let by = some_of (λ u. covers length u w) x.nullified covered in
              let more : suc w ≡ w + 1 = omega arith in
              let not_by : covers length by.0 (w + 1) ≡ false =
              none_of (λ u. covers length u (w + 1)) x.nullified by.0 (rw more at uncovered) by.1 in
              let starts : w + 1 ≡ next_term_start length by.0 =
              next_of_covered w by.0 some (omega arith) by.2 not_by in
              let among : IsIn (next_term_start length by.0) (map (next_term_start length) x.nullified) =
              in_map (next_term_start length) x.nullified by.0 by.1 in (
                suc w,
                or_right (eqb (p + 1) (suc w)) _
                    (subst (λ n. IsIn n (map (next_term_start length) x.nullified)) (sym (more ∙ starts)) among),
                gap,
                omega arith,
              )
          | inr open' ↦
              let rest = gap_start_below p v some w behind (omega arith) open' in
              (rest.0, rest.1, rest.2, omega arith)
        ]
      ]

  -- an uncovered view between is not below the first gap
  gap_not_below : (p v w : ℕ) → 0 < length → p < w → w < v → is_covered x w ≡ false
      → (c : ℕ) × (lowest (filter (is_gap x p v) (gap_starts x p)) ≡ Some c) × (c ≤ w)
  gap_not_below p v w some low high uncovered =
      let start = gap_start_below p v some w low high uncovered in
      let least = lowest_least (is_gap x p v) (gap_starts x p) start.0 start.1 start.2 in
      (least.0, least.1, omega arith)

  gap_parts : (p v w : ℕ) → is_gap x p v w ≡ true → (p < w) × (w < v) × (is_covered x w ≡ false)
  gap_parts p v w h =
      let first = and_parts (ltb p w && ltb w v) _ h in
      let second = and_parts (ltb p w) _ first.0 in
      (grind (arith, nat_tests), grind (arith, nat_tests), not_true _ first.1)

  found_gap : (p v : ℕ) → 0 < length → (o : Option ℕ) → lowest (filter (is_gap x p v) (gap_starts x p)) ≡ o
      → MatchOption o (IsGapless x p v) (IsFirstGap x p v)
  found_gap p v some None e = λ w low high. elim (cases_bool (is_covered x w)) [
    | inl covered ↦ covered
    | inr open' ↦ absurd (false≢true (ap is_some (sym e ∙ (gap_not_below p v w some low high open').1)))
  ]
  found_gap p v some (Some w) e =
      let parts = gap_parts p v w (lowest_passes (is_gap x p v) (gap_starts x p) w e) in
      record {
        above = parts.0;
        below = parts.1;
        uncovered = parts.2;
        covered_before = λ u low high. elim (cases_bool (is_covered x u)) [
          | inl covered ↦ covered
          | inr open' ↦
              let least = gap_not_below p v u some low (omega arith) open' in
              let same : w ≡ least.0 = ap (λ o. unwrap_or o 0) (sym e ∙ least.1) in
              absurd (omega arith)
        ];
      }

  pub first_unnullified_view-is : (p v : ℕ) → 0 < length
      → MatchOption (first_unnullified_view x p v) (IsGapless x p v) (IsFirstGap x p v)
  unfolding first_unnullified_view
  first_unnullified_view-is p v some = found_gap p v some _ refl

  pub gapless_joins : (p v w : ℕ) → IsGapless x p v → is_covered x v ≡ true → IsGapless x v w → IsGapless x p w
  gapless_joins p v w before here after u low high = elim (cases_lt u v) [
    | inl below ↦ before u low below
    | inr above ↦ elim (cases_lt v u) [
      | inl past ↦ after u past high
      | inr not_past ↦ let same : v ≡ u = omega arith in subst (λ n. is_covered x n ≡ true) same here
    ]
  ]

  -- no view lies between a view and the next one
  pub no_room : (p v : ℕ) → p + 1 ≡ v → lowest (filter (is_gap x p v) (gap_starts x p)) ≡ None
  no_room p v before = elim (cases_option (lowest (filter (is_gap x p v) (gap_starts x p)))) [
    | inl none ↦ none
    | inr found ↦
        let parts = gap_parts p v found.0 (lowest_passes (is_gap x p v) (gap_starts x p) found.0 found.1) in
        absurd (omega arith)
  ]

any-insert_key : (test : ℕ → Bool) (us : List ℕ) (u : ℕ) → list_any test us ≡ true
    → list_any test (insert_key nat_cmp us u) ≡ true
any-insert_key test [] u h = absurd (false≢true h)
any-insert_key test (v ∷ us) u h = elim (nat_cmp u v) as
    (λ o. list_any test (match_ordering o (u ∷ v ∷ us) (v ∷ us) (v ∷ insert_key nat_cmp us u)) ≡ true) [
      | Less ↦ or_right (test u) _ h
      | Equal ↦ h
      | Greater ↦ elim (cases_bool (test v)) [
        | inl here ↦ rw here refl
        | inr other ↦ or_right (test v) _ (any-insert_key test us u (rw other at h))
      ]
    ]

pub covering_stays : {K L D : Type 0} (x : StateFacts K L D) (u w : ℕ) → is_covered x w ≡ true
    → is_covered (nullified_also x u) w ≡ true
covering_stays x u w h = any-insert_key (λ n. covers x.terms.term_length n w) x.nullified u h
