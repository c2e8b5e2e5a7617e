-- The facts' lists match the sorted containers.
use Rattle.std.proofs.Common.{◌≡◌, ℕ, List, [], ◌∷◌, refl, ap, ◌∙◌}
use Rattle.std.specs.Prelude.{map, filter, nat_le}
use Rattle.std.specs.Cmp.{nat_cmp_total}
use Rattle.std.specs.declared.cmp.Ordering.TheVariants.{Less, Equal, Greater}
use Rattle.std.specs.Ordering.{nat_cmp, match_ordering}
use Rattle.std.specs.FinMap as fin
use Rattle.std.specs.FinMap.Entries.{put, by_order}
use Rattle.std.specs.BTreeSet.{insert_key}
use Rattle.simplex_view_maps.specs.Tracked.{at_or_above}
use Rattle.simplex_view_maps.proofs.Maps.{entries-retain_keys}

module _ {R : Type 0} where
  pub keys-put : (es : List (ℕ × R)) (v : ℕ) (r : R)
      → map (λ e. e.0) (put nat_cmp v r es) ≡ insert_key nat_cmp (map (λ e. e.0) es) v
  keys-put [] v r = refl
  keys-put (e ∷ es) v r = elim (nat_cmp v e.0) as
      (λ o. map (λ (f : ℕ × R). f.0) (by_order o ((v, r) ∷ e ∷ es) ((e.0, r) ∷ es) (e ∷ put nat_cmp v r es))
      ≡ match_ordering o (v ∷ e.0 ∷ map (λ f. f.0) es) (e.0 ∷ map (λ f. f.0) es)
      (e.0 ∷ insert_key nat_cmp (map (λ f. f.0) es) v)) [
        | Less ↦ refl
        | Equal ↦ refl
        | Greater ↦ ap (λ views. e.0 ∷ views) (keys-put es v r)
      ]

  pub entries-insert : (m : fin.FinMap nat_cmp R) (v : ℕ) (r : R)
      → fin.entries (fin.insert m v r) ≡ put nat_cmp v r (fin.entries m)
  entries-insert m v r = fin.entries-insert nat_cmp_total m v r

  pub keys-insert : (m : fin.FinMap nat_cmp R) (v : ℕ) (r : R)
      → fin.keys (fin.insert m v r) ≡ insert_key nat_cmp (fin.keys m) v
  keys-insert m v r = ap (λ es. map (λ e. e.0) es) (entries-insert m v r) ∙ keys-put (fin.entries m) v r

  pub entries-kept : (m : fin.FinMap nat_cmp R) (v : ℕ)
      → fin.entries (at_or_above m v) ≡ filter (λ e. nat_le v e.0) (fin.entries m)
  entries-kept m v = entries-retain_keys m (λ key. nat_le v key)
