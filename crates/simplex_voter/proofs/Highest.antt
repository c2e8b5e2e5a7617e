-- The highest nullified view that covers a view.
use Rattle.std.proofs.Common.{◌≡◌, ℕ, suc, ◌-◌, List, [], ◌∷◌, length, slice_get, Option, Some, None, refl, ap, ◌∙◌, arith}
use Rattle.std.specs.Prelude.{map, option_map}
use Rattle.std.specs.List.{last_or}
use Rattle.std.specs.FinMap as fin
use Rattle.simplex_view_maps.specs.ByTerm.{ByTermFacts, covering}
use Rattle.simplex_types.specs.Terms.{covers}
use Rattle.simplex_view_maps.proofs.Maps.{entries-retain_keys}
use Rattle.simplex_voter.specs.Facts.{StateFacts}
use Rattle.simplex_voter.specs.StateAnswers.{highest_nullification_in_term}
use Rattle.simplex_voter.proofs.RoundsKept.{filter-keys}

-- the last key is that of the last entry
last_key : {V : Type 0} (es : List (ℕ × V))
    → option_map (λ e. e.0) (slice_get es (length es - 1)) ≡ last_or None (map (λ e. e.0) es)
last_key [] = refl
last_key (e ∷ []) = refl
last_key (e ∷ d ∷ es) =
    let behind : length (e ∷ d ∷ es) - 1 ≡ suc (length (d ∷ es) - 1) = omega arith in
    rw behind (last_key (d ∷ es))

module _ {K L D : Type 0} (x : StateFacts K L D) (m : ByTermFacts (Unit {0})) (v : ℕ)
    (shown : x.nullified ≡ fin.keys m.by_view) (same : m.term_length ≡ x.terms.term_length) where
  highest_is : (found : Option (ℕ × Unit {0})) → found ≡ covering m v
      → option_map (λ e. e.0) found ≡ highest_nullification_in_term x v
  highest_is found is =
      let kept = fin.retain_keys m.by_view (λ u. covers m.term_length u v) in
      rw (is, shown, ← same) (
      last_key (fin.entries kept)
      ∙ ap (λ es. last_or None (map (λ e. e.0) es)) (entries-retain_keys m.by_view (λ u. covers m.term_length u v))
      ∙ ap (last_or None) (filter-keys (λ u. covers m.term_length u v) (fin.entries m.by_view)))

  pub highest_there : (e : ℕ × Unit {0}) → Some e ≡ covering m v → Some e.0 ≡ highest_nullification_in_term x v
  highest_there e is = highest_is (Some e) is

  pub highest_none : None ≡ covering m v → None ≡ highest_nullification_in_term x v
  highest_none is = highest_is None is
