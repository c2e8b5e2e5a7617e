-- Which views are covered after a change of the entries.
use Rattle.std.proofs.Common.{◌≡◌, ℕ, ◌<◌, ◌≤◌, Bool, true, cond, ltb, leb, ◌^◌, ◌-◌, min, max, List, [], ◌∷◌, Option, Some, None, is_some, Result, Ok, Err, refl, ap, sym, ◌∙◌, inl, inr, arith}
use Rattle.std.specs.Prelude.{map}
use Rattle.std.specs.List.{list_any}
use Rattle.std.specs.Ordering.{nat_cmp}
use Rattle.std.specs.FinMap as fin
use Rattle.std.specs.FinMap.{FinMap, find}
use Rattle.std.proofs.lemmas.Bool.{cases_eq, cases_lt, le-leb, lt-ltb, eq-eqb, ne_eqb, false≢true}
use Rattle.simplex_view_maps.specs.Tracked.{after_insert, at_or_above}
use Rattle.simplex_types.specs.declared.types.fault.AllocFailed.{AllocFailed}
use Rattle.simplex_types.specs.Terms.{next_term_start, term_end, covers}
use Rattle.simplex_view_maps.specs.ByTerm.{ByTermFacts, has_covering, not_ended}
use Rattle.simplex_view_maps.specs.Runs.{AreIn}
use Rattle.simplex_view_maps.proofs.Maps.{find_at_key, find_other, stood, get-insert, get-kept}
use Rattle.simplex_view_maps.proofs.Terms.{start_monotone}
use Rattle.simplex_view_maps.proofs.Gaps.{cases_bool, or_any, covered_on}
use Rattle.simplex_types.proofs.Covers.{covers_parts, covers_from, end_above}

module _ {V : Type 0} (p : ℕ → Bool) where
  -- a key that passes
  passing : (es : List (ℕ × V)) → list_any p (map (λ e. e.0) es) ≡ true
      → (u : ℕ) × (is_some (find nat_cmp u es) ≡ true) × (p u ≡ true)
  passing [] h = absurd (false≢true h)
  passing (e ∷ es) h = elim (cases_bool (p e.0)) [
    | inl passes ↦ (e.0, ap is_some (find_at_key e.0 e es refl), passes)
    | inr fails ↦
        let found = passing es (rw fails at h) in (
          found.0,
          elim (cases_eq found.0 e.0) [
            | inl same ↦ ap is_some (find_at_key found.0 e es same)
            | inr other ↦ ap is_some (find_other found.0 e es other) ∙ found.1
          ],
          found.2,
        )
  ]

  passed : (es : List (ℕ × V)) (u : ℕ) → is_some (find nat_cmp u es) ≡ true → p u ≡ true
      → list_any p (map (λ e. e.0) es) ≡ true
  passed [] u there passes = there
  passed (e ∷ es) u there passes = elim (cases_eq u e.0) [
    | inl same ↦ rw (← same, passes) refl
    | inr other ↦ or_any (p e.0) _ (passed es u (sym (ap is_some (find_other u e es other)) ∙ there) passes)
  ]

module _ {V : Type 0} (m : ByTermFacts V) where
  -- a view stays covered if what covers it stays
  still_covered : (b : FinMap nat_cmp V) (w : ℕ)
      → ((u : ℕ) → covers m.term_length u w ≡ true → is_some (fin.get m.by_view u) ≡ true
      → is_some (fin.get b u) ≡ true) → has_covering m w ≡ true → has_covering (record m { by_view = b }) w ≡ true
  still_covered b w stays h =
      let found = passing (λ u. covers m.term_length u w) (fin.entries m.by_view) h in
      let there = stays found.0 found.2 (ap is_some (fin.get-entries m.by_view found.0) ∙ found.1) in
      passed (λ u. covers m.term_length u w) (fin.entries b) found.0
      (sym (ap is_some (fin.get-entries b found.0)) ∙ there) found.2

  inserted_there : (v : ℕ) (x : V) (r : Result (Option V) (AllocFailed V)) (u : ℕ)
      → is_some (fin.get m.by_view u) ≡ true → is_some (fin.get (after_insert m.by_view v x r) u) ≡ true
  inserted_there v x (Ok None) u there = ap is_some (get-insert m.by_view v x u) ∙ elim (cases_eq u v) [
    | inl same ↦ rw (eq-eqb u v same) refl
    | inr other ↦ rw (ne_eqb u v other) there
  ]
  inserted_there v x (Ok (Some back)) u there = there
  inserted_there v x (Err refused) u there = there

  -- an insert covers what was covered
  pub inserted_covers : (v : ℕ) (x : V) (r : Result (Option V) (AllocFailed V)) (w : ℕ) → has_covering m w ≡ true
      → has_covering (record m { by_view = after_insert m.by_view v x r }) w ≡ true
  inserted_covers v x r w h = still_covered (after_insert m.by_view v x r) w (λ u _ there. inserted_there v x r u there)
      h

  stands : (v : ℕ) (x : V) (back : Option V) → back ≡ cond (fin.contains_key m.by_view v) (Some x) None
      → is_some (fin.get (after_insert m.by_view v x (Ok back)) v) ≡ true
  stands v x None is = ap is_some (get-insert m.by_view v x v) ∙ rw (eq-eqb v v refl) refl
  stands v x (Some y) is = stood _ y x is

  -- and the rest of the view's term
  pub insert_covers : (v : ℕ) (x : V) (back : Option V) → 1 ≤ v
      → back ≡ cond (fin.contains_key m.by_view v) (Some x) None
      → AreIn (has_covering (record m { by_view = after_insert m.by_view v x (Ok back) })) v
      (next_term_start m.term_length v)
  insert_covers v x back one is w low high =
      let n : ByTermFacts V = record m { by_view = after_insert m.by_view v x (Ok back) } in
      let b = fin.entries n.by_view in
      let there = sym (ap is_some (fin.get-entries n.by_view v)) ∙ stands v x back is in
      let here : has_covering n v ≡ true = passed (λ u. covers m.term_length u v) b v there
      (covers_from m.term_length v v (omega arith) refl) in
      covered_on n v w one low high here

-- what covers a view after a term is after that term too
covers_behind : (length v u w : ℕ) → 0 < length → next_term_start length v ≤ w → covers length u w ≡ true → v < u
covers_behind length v u w some behind h =
    let p = covers_parts length u w h in
    elim (cases_lt v u) [
      | inl above ↦ above
      | inr not_above ↦ absurd (omega
          (arith, p.1, behind, start_monotone length u v not_above, end_above length w some (omega (arith, behind))))
    ]

kept_some : {V : Type 0} (b : Bool) (o : Option V) → b ≡ true → is_some o ≡ true → is_some (cond b o None) ≡ true
kept_some b o keep there = rw keep there

module _ {V : Type 0} (m : ByTermFacts V) (v : ℕ) (some : 0 < m.term_length) where
  -- views after the term stay covered
  pub ended_covers : (w : ℕ) → next_term_start m.term_length v ≤ w → has_covering m w ≡ true
      → has_covering (record m { by_view = not_ended m v }) w ≡ true
  ended_covers w behind h = still_covered m (not_ended m v) w (λ u covered there.
      let above = covers_behind m.term_length v u w some behind covered in
      let ends : v < term_end m.term_length u =
      omega (arith, above, end_above m.term_length u some (omega (arith, above))) in
      ap is_some (get-kept m.by_view (λ k. ltb v (term_end m.term_length k)) u)
      ∙ kept_some (ltb v (term_end m.term_length u)) _ (lt-ltb v _ ends) there) h

  pub lowered_covers : (w : ℕ) → next_term_start m.term_length v ≤ w → has_covering m w ≡ true
      → has_covering (record m { by_view = at_or_above m.by_view v }) w ≡ true
  lowered_covers w behind h = still_covered m (at_or_above m.by_view v) w (λ u covered there.
      let above = covers_behind m.term_length v u w some behind covered in
      ap is_some (get-kept m.by_view (λ k. leb v k) u)
      ∙ kept_some (leb v u) _ (le-leb v u (omega (arith, above))) there) h

-- a view of a run's part after a term is after the term
pub behind_term : (first end next w : ℕ) → end < 2 ^ 64 → max first (min next (2 ^ 64 - 1)) ≤ w → w < end
    → (first ≤ w) × (next ≤ w)
behind_term first end next w fits low high = (grind arith, grind arith)

-- a run continues another
pub followed : {set : ℕ → Bool} {first end behind : ℕ} → AreIn set first end → AreIn set end behind
    → AreIn set first behind
followed {set} {first} {end} {behind} here on w low high = elim (cases_lt w end) [
  | inl within ↦ here w low within
  | inr past ↦ on w past high
]
