-- A vote to nullify bars a finalize vote exactly where the highest one in reach does.
use Rattle.std.proofs.Common.{◌≡◌, ℕ, suc, ◌-◌, ◌<◌, Bool, true, false, ◌&&◌, ◌||◌, ltb, List, [], ◌∷◌, length, slice_get, Option, Some, None, filter, refl, ap, sym, ◌∙◌, inl, inr, arith}
use Rattle.std.specs.Prelude.{map}
use Rattle.std.specs.List.{list_any}
use Rattle.std.specs.Option.{option_map_or}
use Rattle.std.specs.Ordering.{nat_cmp, is_gt}
use Rattle.std.specs.FinMap as fin
use Rattle.std.proofs.lemmas.Bool.Decides.{nat_tests}
use Rattle.simplex_view_maps.specs.ByTerm.{ByTermFacts, covering_below}
use Rattle.simplex_view_maps.specs.Tracked.{last_entry}
use Rattle.simplex_types.specs.Terms.{covers}
use Rattle.simplex_view_maps.proofs.RisingEntries.{Rises}
use Rattle.simplex_view_maps.proofs.Maps.{entries-retain_keys, map_rises}
use Rattle.simplex_voter.specs.Facts.{StateFacts}
use Rattle.simplex_voter.specs.Rules.{has_conflicting_nullify}
use Rattle.simplex_voter.proofs.Gaps.{cases_bool}

pub gt_is : (a b : ℕ) → is_gt (nat_cmp a b) ≡ ltb b a
gt_is a b = grind (arith, nat_tests)

module _ {V : Type 0} where
  -- some view of rising ones is above t exactly where the last one is
  above_by_last : (t : ℕ) (es : List (ℕ × V)) → Rises es
      → list_any (λ u. ltb t u) (map (λ e. e.0) es) ≡ option_map_or (λ e. ltb t e.0) (slice_get es (length es - 1))
      false
  above_by_last t [] r = refl
  above_by_last t (e ∷ []) r = elim (ltb t e.0) as (λ b. (b || false) ≡ b) [
    | true ↦ refl
    | false ↦ refl
  ]
  above_by_last t (e ∷ d ∷ es) r =
      let behind : length (e ∷ d ∷ es) - 1 ≡ suc (length (d ∷ es) - 1) = omega arith in
      let rest : list_any (λ u. ltb t u) (map (λ f. f.0) (d ∷ es)) ≡ option_map_or (λ f. ltb t f.0)
      (slice_get (d ∷ es) (length (d ∷ es) - 1)) false = above_by_last t (d ∷ es) r.1 in
      elim (cases_bool (ltb t e.0)) [
        | inl above ↦
            let next : ltb t d.0 ≡ true = let up : e.0 < d.0 = r.0.0 in grind (arith, nat_tests) in
            rw (above, behind, ← rest, next) refl
        | inr not_above ↦ rw (not_above, behind) rest
      ]

  any_kept : (p q : ℕ → Bool) (es : List (ℕ × V))
      → list_any q (map (λ e. e.0) (filter (λ e. p e.0) es)) ≡ list_any (λ u. p u && q u) (map (λ e. e.0) es)
  any_kept p q [] = refl
  any_kept p q (e ∷ es) = elim (cases_bool (p e.0)) [
    | inl passes ↦ rw passes (ap (λ b. q e.0 || b) (any_kept p q es))
    | inr fails ↦ rw fails (any_kept p q es)
  ]

  -- the same of the views of a map that pass a test
  above_by_last_kept : (t : ℕ) (m : fin.FinMap nat_cmp V) (p : ℕ → Bool)
      → list_any (λ u. p u && ltb t u) (fin.keys m) ≡ option_map_or (λ e. ltb t e.0) (last_entry (fin.retain_keys m p))
      false
  above_by_last_kept t m p =
      let k = fin.retain_keys m p in
      sym (ap (λ es. list_any (λ u. ltb t u) (map (λ e. e.0) es)) (entries-retain_keys m p)
      ∙ any_kept p (λ u. ltb t u) (fin.entries m))
      ∙ above_by_last t (fin.entries k) (map_rises k)

module _ {K L D : Type 0} (x : StateFacts K L D) (m : ByTermFacts (Unit {0})) (v : ℕ)
    (shown : x.nullify_votes ≡ fin.keys m.by_view) (same : m.term_length ≡ x.terms.term_length) where
  gate_is : (found : Option (ℕ × Unit {0})) → found ≡ covering_below m v
      → option_map_or (λ e. ltb x.finalized e.0) found false ≡ has_conflicting_nullify x v
  unfolding has_conflicting_nullify
  gate_is found is =
      rw (is, shown, ← same) (sym (above_by_last_kept x.finalized m.by_view (λ u. ltb u v && covers m.term_length u v)))

  pub gated_by : (e : ℕ × Unit {0}) → Some e ≡ covering_below m v
      → is_gt (nat_cmp e.0 x.finalized) ≡ has_conflicting_nullify x v
  gated_by e is = gt_is e.0 x.finalized ∙ gate_is (Some e) is

  pub not_gated : None ≡ covering_below m v → false ≡ has_conflicting_nullify x v
  not_gated is = gate_is None is
