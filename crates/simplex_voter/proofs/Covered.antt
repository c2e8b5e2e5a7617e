-- The searches of the containers, applied to nullified views and to views that were certified false.
use Rattle.std.proofs.Common.{◌≡◌, ℕ, ◌<◌, Option, Some, None, is_some, option_map, inl, inr, arith, refl, ap, sym, ◌∙◌}
use Rattle.std.specs.Prelude.{MatchOption}
use Rattle.std.specs.FinMap as fin
use Rattle.std.proofs.lemmas.Bool.{cases_lt, false≢true}
use Rattle.simplex_types.specs.Terms.{covers}
use Rattle.simplex_view_maps.specs.ByTerm as by
use Rattle.simplex_view_maps.proofs.Gaps.{any_last}
use Rattle.simplex_voter.specs.Facts.{StateFacts}
use Rattle.simplex_voter.specs.Gaps.{is_covered, IsGapless, IsFirstGap, first_unnullified_view}
use Rattle.simplex_voter.proofs.Gaps.{first_unnullified_view-is}

mapped_some : {A B : Type 0} (f : A → B) (o : Option A) → is_some (option_map f o) ≡ is_some o
mapped_some f None = refl
mapped_some f (Some a) = refl

module _ {K L D : Type 0} (x : StateFacts K L D) (m : by.ByTermFacts (Unit {0}))
    (shown : x.nullified ≡ fin.keys m.by_view) (same : m.term_length ≡ x.terms.term_length) where
  covered_alike : (w : ℕ) → by.has_covering m w ≡ is_covered x w
  covered_alike w = rw (shown, ← same) refl

  pub covered_by : {A : Type 0} (f : A → ℕ × Unit {0}) (found : Option A) (v : ℕ) → option_map f found ≡ by.covering m v
      → is_some found ≡ is_covered x v
  covered_by f found v is =
      sym (mapped_some f found) ∙ ap is_some is ∙ any_last m.by_view (λ u. covers m.term_length u v) ∙ covered_alike v

  same_gap : (p v : ℕ) (a b : Option ℕ) → MatchOption a (by.Gapless m p v) (by.IsFirstUncovered m p v)
      → MatchOption b (IsGapless x p v) (IsFirstGap x p v) → a ≡ b
  same_gap p v None None left right = refl
  same_gap p v None (Some w) left right = absurd
      (false≢true (sym right.uncovered ∙ sym (covered_alike w) ∙ left w right.above right.below))
  same_gap p v (Some w) None left right = absurd (false≢true (sym left.2 ∙ covered_alike w ∙ right w left.0 left.1))
  same_gap p v (Some w) (Some u) left right = elim (cases_lt w u) [
    | inl under ↦ absurd (false≢true (sym left.2 ∙ covered_alike w ∙ right.covered_before w left.0 under))
    | inr over ↦ elim (cases_lt u w) [
      | inl under ↦ absurd (false≢true (sym right.uncovered ∙ sym (covered_alike u) ∙ left.3 u right.above under))
      | inr level ↦ let alike : w ≡ u = omega arith in ap Some alike
    ]
  ]

  -- the gap that the search finds is the first one
  pub first_found : (p v : ℕ) (found : Option ℕ) → 0 < x.terms.term_length
      → MatchOption found (by.Gapless m p v) (by.IsFirstUncovered m p v) → found ≡ first_unnullified_view x p v
  first_found p v found some is = same_gap p v found (first_unnullified_view x p v) is
      (first_unnullified_view-is x p v some)
