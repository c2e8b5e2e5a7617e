-- How the starts and the ends of terms lie.
use Rattle.std.proofs.Common.{◌≡◌, ℕ, ◌+◌, ◌-◌, ◌*◌, ◌/◌, ◌<◌, ◌≤◌, ◌==◌, ◌&&◌, nat_le, arith, ap, ◌∙◌}
use Rattle.std.proofs.Math.Nat.{div-mul-le_self, div-lt_iff_lt-mul, mul-div_left}
use Rattle.std.proofs.lemmas.Nat.{le-div}
use Rattle.std.proofs.lemmas.Bool.Decides.{nat_tests}
use Rattle.simplex_types.specs.Terms.{term_start, term_end, covers}

-- what is known of the first and the last view of each view's term
pub record AreTerms (first last : ℕ → ℕ) : Type 0 where
  pub positive : (v : ℕ) → 1 ≤ first v
  pub first-le : (v : ℕ) → 1 ≤ v → first v ≤ v
  pub le-last : (v : ℕ) → 1 ≤ v → v ≤ last v
  pub first_inside : (v w : ℕ) → 1 ≤ v → v ≤ w → w ≤ last v → first w ≡ first v
  pub last_inside : (v w : ℕ) → 1 ≤ v → v ≤ w → w ≤ last v → last w ≡ last v
  pub first-next : (v : ℕ) → 1 ≤ v → first (last v + 1) ≡ last v + 1
  pub within : (u v : ℕ) → 1 ≤ v → u ≤ v → first u ≡ first v → v ≤ last u

module _ (t : ℕ) (h : 0 < t) where
  -- the views of one term have one index
  index_inside : (v w : ℕ) → 1 ≤ v → v ≤ w → w ≤ (v - 1) / t * t + t → (w - 1) / t ≡ (v - 1) / t
  index_inside v w a b c =
      let low : (v - 1) / t ≤ (w - 1) / t = le-div ((v - 1) / t) (w - 1) t h (omega (arith, div-mul-le_self (v - 1) t))
      in
      let upto : (w - 1) ≤ (t - 1) + ((v - 1) / t) * t = omega arith in
      let high : (w - 1) / t ≤ (v - 1) / t = div-upto (w - 1) ((v - 1) / t) upto in
      omega arith
    where
      div-upto : (n q : ℕ) → n ≤ (t - 1) + q * t → n / t ≤ q
      div-upto n q k =
          let below : n < (q + 1) * t = omega arith in
          let less : n / t < q + 1 = (div-lt_iff_lt-mul h).1 below in
          omega arith

  start_inside : (v w : ℕ) → 1 ≤ v → v ≤ w → w ≤ term_end t v → term_start t w ≡ term_start t v
  start_inside v w a b c = ap (λ i. i * t + 1) (index_inside v w a b (omega arith))

  end_inside : (v w : ℕ) → 1 ≤ v → v ≤ w → w ≤ term_end t v → term_end t w ≡ term_end t v
  end_inside v w a b c = ap (λ n. n + t - 1) (start_inside v w a b c)

  start-next : (v : ℕ) → 1 ≤ v → term_start t (term_end t v + 1) ≡ term_end t v + 1
  start-next v a =
      let views : term_end t v + 1 - 1 ≡ ((v - 1) / t + 1) * t = omega arith in
      let index : (term_end t v + 1 - 1) / t ≡ (v - 1) / t + 1 = ap (λ n. n / t) views
      ∙ mul-div_left ((v - 1) / t + 1) h in
      ap (λ i. i * t + 1) index ∙ (let e : ((v - 1) / t + 1) * t + 1 ≡ term_end t v + 1 = omega arith in e)

  within_term : (u v : ℕ) → 1 ≤ v → u ≤ v → term_start t u ≡ term_start t v → v ≤ term_end t u
  within_term u v a b same = let own : v ≤ term_start t v + t - 1 = omega arith in omega (arith, own, same)

  pub terms : AreTerms (term_start t) (term_end t)
  terms = record {
    positive = λ v. omega arith;
    first-le = λ v a. omega arith;
    le-last = λ v a. omega arith;
    first_inside = start_inside;
    last_inside = end_inside;
    first-next = start-next;
    within = within_term;
  }

-- a view is covered by those of its term that are not above it
covers_by : (first last : ℕ → ℕ) → AreTerms first last → (u v : ℕ) → 1 ≤ u
    → (nat_le u v && (first u == first v)) ≡ (nat_le u v && nat_le v (last u))
covers_by first last ts u v a =
    let there = ts.within u v in
    let back = ts.first_inside u v a in grind (arith, nat_tests, there, back)

pub covers_upto : (t u v : ℕ) → 0 < t → 1 ≤ u → covers t u v ≡ (nat_le u v && nat_le v (term_end t u))
covers_upto t u v h a = covers_by (term_start t) (term_end t) (terms t h) u v a
