-- Terms and their views: the highest view of a term, and which terms have ended.
use Rattle.std.proofs.Common.{◌≡◌, ℕ, zero, suc, ◌+◌, ◌*◌, ◌/◌, ◌-◌, ◌<◌, ◌≤◌, true, ◌&&◌, eqb, ltb, leb, length, refl, ap, sym, ◌∙◌, inl, inr, arith}
use Rattle.std.proofs.Math.Nat.{div-mul-le_self, le-div_iff_mul-le, mul-le-mul_right}
use Rattle.std.specs.Ordering.{nat_cmp}
use Rattle.std.specs.FinMap.{FinMap}
use Rattle.std.proofs.lemmas.Bool.{cases_lt, lt-ltb, le-ltb, le-leb, lt-leb}
use Rattle.simplex_types.specs.Terms.{term_start, term_end, covers}
use Rattle.simplex_types.proofs.Covers.{same_start, same_start_back, start_below, end_above}
use Rattle.simplex_view_maps.specs.Tracked.{below}
use Rattle.simplex_view_maps.specs.ByTerm.{ByTermFacts, not_ended}
use Rattle.simplex_view_maps.proofs.Maps.{same_maps, get-kept}

-- terms start in the order of their views
pub start_monotone : (length p q : ℕ) → p ≤ q → term_start length p ≤ term_start length q
start_monotone zero p q h = omega arith
start_monotone (suc n) p q h =
    let low : (p - 1) / suc n * suc n ≤ q - 1 = omega (arith, div-mul-le_self (p - 1) (suc n)) in
    let index : (p - 1) / suc n ≤ (q - 1) / suc n = (le-div_iff_mul-le (omega arith)).1 low in
    omega (arith, mul-le-mul_right (suc n) index)

-- the tests of what covers a view
pub up_to_covers : (length v u : ℕ) → covers length u
    v ≡ (ltb u (v + 1) && eqb (term_start length u) (term_start length v))
up_to_covers length v u = ap (λ b. b && eqb (term_start length u) (term_start length v)) (elim (cases_lt u (v + 1)) [
  | inl lower ↦ le-leb u v (omega (arith, lower)) ∙ sym (lt-ltb u (v + 1) lower)
  | inr higher ↦ lt-leb u v (omega (arith, higher)) ∙ sym (le-ltb u (v + 1) higher)
])

pub below_covers : (length v u : ℕ) → (ltb u v && covers length u v)
    ≡ (ltb u v && eqb (term_start length u) (term_start length v))
below_covers length v u = elim (cases_lt u v) [
  | inl lower ↦ rw (lt-ltb u v lower, le-leb u v (omega (arith, lower))) refl
  | inr higher ↦ rw (le-ltb u v higher) refl
]

-- ---- terms that have ended

-- the term of the view after v starts after the whole terms up to v
pub start_after : (length v : ℕ) → v / length * length + 1 ≡ term_start length (v + 1)
start_after length v =
    let same : v + 1 - 1 ≡ v = omega arith in
    rw same refl

-- before the end of the first term none has
none_ended : (length v u : ℕ) → v < length → ltb v (term_end length u) ≡ true
none_ended length v u first = lt-ltb v (term_end length u) (omega (arith, first))

-- a term ends above v exactly where its views are at or above the start of the term of the view after v
pub ends_above : (length v u : ℕ) → 0 < length → length ≤ v
    → ltb v (term_end length u) ≡ leb (term_start length (v + 1)) u
ends_above length v u some later = elim (cases_lt u (term_start length (v + 1))) [
  | inl lower ↦ le-ltb v (term_end length u) (ended lower) ∙ sym (lt-leb (term_start length (v + 1)) u lower)
  | inr higher ↦ lt-ltb v (term_end length u) (open_still higher) ∙ sym (le-leb (term_start length (v + 1)) u higher)
]
  where
    open_still : term_start length (v + 1) ≤ u → v < term_end length u
    open_still start = elim (cases_lt v u) [
      | inl above ↦ let end = end_above length u some (omega (arith, above)) in omega (arith, end, above)
      | inr below ↦
          let at = same_start_back length u (v + 1) some (omega (arith, start)) (omega arith) start
          (omega (arith, below)) in
          let end = end_above length (v + 1) some (omega arith) in
          omega (arith, at, end)
    ]

    ended : u < term_start length (v + 1) → term_end length u ≤ v
    ended before = elim (cases_lt 0 u) [
      | inl positive ↦ elim (cases_lt v (term_end length u)) [
        | inl past ↦
            let first = start_below length (v + 1) (omega arith) in
            let at = same_start length u (v + 1) (omega (arith, positive)) (omega (arith, before, first))
            (omega (arith, past)) in
            let low = start_below length u (omega (arith, positive)) in
            absurd (omega (arith, at, low, before))
        | inr within ↦ within
      ]
      | inr none ↦ let zero_index = div-mul-le_self (u - 1) length in omega (arith, zero_index, none, later)
    ]

module _ {V : Type 0} (m : ByTermFacts V) (v : ℕ) where
  pub all_open : v < m.term_length → m.by_view ≡ not_ended m v
  all_open first = same_maps _ _ (λ q.
      sym (get-kept m.by_view (λ u. ltb v (term_end m.term_length u)) q ∙ rw (none_ended m.term_length v q first) refl))

-- the values of two containers by terms, by the maps of their entries
pub alike : {V : Type 0} (length : ℕ) {m n : FinMap nat_cmp V} → m ≡ n
    → ◌≡◌ {A = ByTermFacts V} (record { term_length = length; by_view = m })
    (record { term_length = length; by_view = n })
alike length same i = record { term_length = length; by_view = same i }
