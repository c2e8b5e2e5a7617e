-- Which views nullifications cover, and where they leave a gap.
use Rattle.std.specs.Prelude.{◌≡◌, ℕ, ◌<◌, ◌+◌, Bool, true, false, not, ◌&&◌, nat_lt, List, [], ◌∷◌, Option, Some, None, is_none, filter, map, min}
use Rattle.std.specs.List.{list_any}
use Rattle.simplex_types.specs.Terms.{covers, next_term_start}
use Rattle.simplex_voter.specs.Facts.{StateFacts}

-- the lower of a view and another one, if there is one
abbrev pub lower_of : ℕ → Option ℕ → Option ℕ
lower_of v None = Some v
lower_of v (Some w) = Some (min v w)

-- the lowest of some views
abbrev pub lowest : List ℕ → Option ℕ
lowest [] = None
lowest (v ∷ views) = lower_of v (lowest views)

module _ {K L D : Type 0} where
  -- the term of the view has a nullification, at or below it
  abbrev pub is_covered : StateFacts K L D → ℕ → Bool
  is_covered x w = list_any (λ u. covers x.terms.term_length u w) x.nullified

  -- each view strictly between is covered
  abbrev pub IsGapless : StateFacts K L D → ℕ → ℕ → Type 0
  IsGapless x p v = (w : ℕ) → p < w → w < v → is_covered x w ≡ true

  -- the lowest view strictly between that is not covered
  pub record IsFirstGap (x : StateFacts K L D) (p v w : ℕ) : Type 0 where
    pub above : p < w
    pub below : w < v
    pub uncovered : is_covered x w ≡ false
    pub covered_before : IsGapless x p w

  -- a gap begins just above the parent, or with the term after one that was nullified
  abbrev pub gap_starts : StateFacts K L D → ℕ → List ℕ
  gap_starts x p = (p + 1) ∷ map (next_term_start x.terms.term_length) x.nullified

  -- a view between p and v that no nullification covers
  abbrev pub is_gap : StateFacts K L D → ℕ → ℕ → ℕ → Bool
  is_gap x p v w = nat_lt p w && nat_lt w v && not (is_covered x w)

  -- the lowest uncovered view strictly between, found among the views where a gap may begin
  unfoldable pub first_unnullified_view : StateFacts K L D → ℕ → ℕ → Option ℕ
  first_unnullified_view x p v = lowest (filter (is_gap x p v) (gap_starts x p))

  -- the test of `IsGapless`
  abbrev pub is_gapless : StateFacts K L D → ℕ → ℕ → Bool
  is_gapless x p v = is_none (first_unnullified_view x p v)
