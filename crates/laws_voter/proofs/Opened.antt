-- Which windows a certificate opens.
use Rattle.std.proofs.Common.{◌≡◌, ℕ, zero, suc, ◌+◌, ◌-◌, ◌*◌, ◌/◌, ◌<◌, ◌≤◌, ◌≢◌, Bool, true, false, ◌||◌, cond, eqb, Some, None, refl, ap, sym, ◌∙◌, inl, inr, arith, eq-eqb}
use Rattle.std.specs.Prelude.{min, max, is_some, unwrap_or, ◌==◌}
use Rattle.std.specs.List.{range_with_len}
use Rattle.std.proofs.lemmas.Bool.{cases_lt, eqb-true, false≢true, ne_eqb}
use Rattle.std.proofs.Math.Nat.{div-mul-le_self, le-div_iff_mul-le, mul-div_cancel, mul-le-mul_right}
use Rattle.simplex_types.specs.Terms.{term_start, term_end, next_term_start}
use Rattle.simplex_types.specs.Window.{issuance_floor}
use Rattle.simplex_types.proofs.Covers.{same_start}
use Rattle.simplex_view_maps.proofs.Gaps.{next_above}
use Rattle.simplex_voter.specs.Facts.{StateFacts}
use Rattle.simplex_voter.specs.Leaders.{opened_views}
use Rattle.laws_voter.specs.Laws.{IsOpenedBy}
use Rattle.simplex_voter.proofs.Gaps.{cases_bool, IsIn, or_right, or_none}

in_range-bounds : (n a w : ℕ) → IsIn w (range_with_len a n) → (a ≤ w) × (w < a + n)
in_range-bounds zero a w is = absurd (false≢true is)
in_range-bounds (suc n) a w is = elim (cases_bool (eqb a w)) [
  | inl same ↦ let e : a ≡ w = eqb-true a w same in (omega arith, omega arith)
  | inr other ↦
      let rest = in_range-bounds n (a + 1) w (rw other at is) in
      (omega arith, omega arith)
]

bounds-in_range : (n a w : ℕ) → a ≤ w → w < a + n → IsIn w (range_with_len a n)
bounds-in_range zero a w low high = absurd (omega arith)
bounds-in_range (suc n) a w low high = elim (cases_lt a w) [
  | inl above ↦ or_right (eqb a w) _ (bounds-in_range n (a + 1) w (omega arith) (omega arith))
  | inr not_above ↦ rw (eq-eqb a w (omega arith)) refl
]

module _ (length : ℕ) (some : 0 < length) where
  start_below : (v : ℕ) → 1 ≤ v → term_start length v ≤ v
  start_below v one = let d : (v - 1) / length * length ≤ v - 1 = div-mul-le_self (v - 1) length in omega arith

  -- a term that begins at or below v does not begin above the term of v
  start_rises : (v w : ℕ) → term_start length w ≤ v → term_start length w ≤ term_start length v
  start_rises v w low =
      let k : ℕ = (w - 1) / length in
      let fits : k ≤ (v - 1) / length = (le-div_iff_mul-le {k = length} {x = k} {y = v - 1} some).1 (omega arith) in
      let scaled : k * length ≤ (v - 1) / length * length = mul-le-mul_right length fits in
      omega arith

  -- the view after v starts a term where a term begins there
  next_starts : (v w : ℕ) → term_start length w ≡ v + 1 → term_start length (v + 1) ≡ v + 1
  next_starts v w begins =
      let k : ℕ = (w - 1) / length in
      let whole : v ≡ k * length = omega arith in
      let before : v + 1 - 1 ≡ k * length = omega arith in
      let index : (v + 1 - 1) / length ≡ k = ap (λ n. n / length) before ∙ mul-div_cancel k some in
      ap (λ n. n * length + 1) index ∙ omega arith

else_some : (b : Bool) (m low : ℕ) → cond b None (Some m) ≡ Some low → (b ≡ false) × (m ≡ low)
else_some true m low e = absurd (false≢true (ap is_some e))
else_some false m low e = (refl, ap (λ o. unwrap_or o 0) e)

differ : (a b : ℕ) → eqb a b ≡ false → a ≢ b
differ a b apart e = false≢true (sym apart ∙ eq-eqb a b e)

module _ (length optimistic w : ℕ) where
  floor_some : (low : ℕ) → issuance_floor length optimistic w ≡ Some low
      → (w ≢ term_start length w) × (optimistic ≢ 0) × (max (term_start length w - 1) (w - 1 - optimistic) ≡ low)
  floor_some low e =
      let found = else_some ((w == 0) || (w == term_start length w) || (optimistic == 0)) _ low e in
      let last = or_none ((w == 0) || (w == term_start length w)) _ found.0 in
      let first = or_none (w == 0) _ last.0 in
      (differ w (term_start length w) first.1, differ optimistic 0 last.1, found.1)

  some_floor : w ≢ 0 → w ≢ term_start length w → optimistic ≢ 0
      → issuance_floor length optimistic w ≡ Some (max (term_start length w - 1) (w - 1 - optimistic))
  some_floor a b c = rw (ne_eqb w 0 a, ne_eqb w (term_start length w) b, ne_eqb optimistic 0 c) refl

module _ {K L D : Type 0} (x : StateFacts K L D) (v : ℕ) (one : 0 < v) (some : 0 < x.terms.term_length) where
  abbrev length : ℕ
  length = x.terms.term_length

  abbrev optimistic : ℕ
  optimistic = x.terms.optimistic_views

  opened-bounds : (w : ℕ) → IsIn w (opened_views x v)
      → (optimistic ≢ 0) × (v < w) × (w ≤ term_end length v) × (w ≤ v + optimistic + 1)
  opened-bounds w is = elim (cases_bool (optimistic == 0)) [
    | inl none ↦ absurd (false≢true (rw none at is))
    | inr ahead ↦
        let bounds = in_range-bounds (min (term_end length v) (v + optimistic + 1) - v) (v + 1) w (rw ahead at is) in
        (differ optimistic 0 ahead, omega arith, omega arith, omega arith)
  ]

  opened-each : (u : ℕ) → optimistic ≢ 0 → v < u → u ≤ term_end length v → u ≤ v + optimistic + 1
      → (low : ℕ) × IsOpenedBy x v u low
  opened-each u ahead above inside near =
      let start : term_start length u ≡ term_start length v = same_start length v u one (omega arith) (omega arith) in
      let begins : term_start length v ≤ v = start_below length some v one in (
        max (term_start length u - 1) (u - 1 - optimistic),
        record {
          floor = some_floor length optimistic u (λ e. absurd (omega arith)) (λ e. absurd (omega arith)) ahead;
          reached = omega arith;
        },
      )

  pub opened_reached : (w : ℕ) → IsIn w (opened_views x v)
      → (v < w) × ((u : ℕ) → v < u → u ≤ w → (low : ℕ) × IsOpenedBy x v u low)
  opened_reached w is =
      let bounds = opened-bounds w is in
      let inside : w ≤ term_end length v = bounds.2 in
      let near : w ≤ v + optimistic + 1 = bounds.3 in
      (bounds.1, λ u above up. opened-each u bounds.0 above (omega arith) (omega arith))

  pub reached_opened : (w : ℕ) → (v < w) × ((u : ℕ) → v < u → u ≤ w → (low : ℕ) × IsOpenedBy x v u low)
      → IsIn w (opened_views x v)
  reached_opened w reached =
      let above : v < w = reached.0 in
      let next = reached.1 (v + 1) (omega arith) (omega arith) in
      let not_start = (floor_some length optimistic (v + 1) next.0 next.1.floor).0 in
      let last = reached.1 w above (omega arith) in
      let floor = floor_some length optimistic w last.0 last.1.floor in
      let low : last.0 ≤ v = last.1.reached in
      let is_low : max (term_start length w - 1) (w - 1 - optimistic) ≡ last.0 = floor.2 in
      let starts_at_most : term_start length w ≤ v + 1 = omega arith in
      let not_next : term_start length w ≢ v + 1 = λ begins. not_start (sym (next_starts length some v w begins)) in
      let starts : term_start length w ≤ term_start length v = start_rises length some v w (omega arith) in
      let behind : w < next_term_start length w = next_above length w some (omega arith) in
      rw (ne_eqb optimistic 0 floor.1)
      (bounds-in_range (min (term_end length v) (v + optimistic + 1) - v) (v + 1) w (omega arith) (omega arith))
