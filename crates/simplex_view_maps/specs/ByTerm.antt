-- Definitions for a finite map from views whose terms matter.
use Rattle.std.specs.Prelude.{◌≡◌, ℕ, ◌<◌, Bool, true, false, ◌&&◌, nat_lt, Option, refl}
use Rattle.std.specs.Coded.{Coded, code_by, coded×, coded_ℕ}
use Rattle.std.specs.List.{list_any}
use Rattle.std.specs.Ordering.{nat_cmp}
use Rattle.std.specs.FinMap.{FinMap, keys, retain_keys, code}
use Rattle.simplex_types.specs.Terms.{term_end, covers}
use Rattle.simplex_view_maps.specs.Tracked.{last_entry}

-- a map from views, and how many views a term has
pub record ByTermFacts (V : Type 0) : Type 0 where
  pub term_length : ℕ
  pub by_view : FinMap nat_cmp V

-- such a map as a number and a map, so that two can be distinguished
abbrev pub by_term_code : {V : Type 0} → Coded V → Coded (ByTermFacts V)
by_term_code {V} value =
    code_by (ℕ × FinMap nat_cmp V) (coded× coded_ℕ (code coded_ℕ value)) (λ m. (m.term_length, m.by_view))
    (λ p. record { term_length = p.0; by_view = p.1 }) (λ _. refl)

-- the entry of the highest view that covers a view
abbrev pub covering : {V : Type 0} → ByTermFacts V → ℕ → Option (ℕ × V)
covering m view = last_entry (retain_keys m.by_view (λ u. covers m.term_length u view))

-- the entry of the highest view below a view in its term
abbrev pub covering_below : {V : Type 0} → ByTermFacts V → ℕ → Option (ℕ × V)
covering_below m view = last_entry (retain_keys m.by_view (λ u. nat_lt u view && covers m.term_length u view))

-- the entries of the terms that end above a view
abbrev pub not_ended : {V : Type 0} → ByTermFacts V → ℕ → FinMap nat_cmp V
not_ended m view = retain_keys m.by_view (λ u. nat_lt view (term_end m.term_length u))

-- a view there covers w
abbrev pub has_covering : {V : Type 0} → ByTermFacts V → ℕ → Bool
has_covering m w = list_any (λ u. covers m.term_length u w) (keys m.by_view)

-- each view strictly between is covered
abbrev pub Gapless : {V : Type 0} → ByTermFacts V → ℕ → ℕ → Type 0
Gapless m p v = (w : ℕ) → p < w → w < v → has_covering m w ≡ true

-- w is the least view strictly between that is not covered
abbrev pub IsFirstUncovered : {V : Type 0} → ByTermFacts V → ℕ → ℕ → ℕ → Type 0
IsFirstUncovered m p v w = (p < w) × (w < v) × (has_covering m w ≡ false) × Gapless m p w
