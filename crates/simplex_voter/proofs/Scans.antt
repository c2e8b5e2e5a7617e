-- Walks over views for the first with a result, and the views that a walk visits.
use Rattle.std.proofs.Common.{◌≡◌, ℕ, ◌+◌, true, false, ◌&&◌, ltb, leb, List, [], ◌∷◌, filter, length, Option, Some, None, slice_get, is_some, refl, ap, sym, ◌∙◌, arith}
use Rattle.std.specs.List.{filter_map}
use Rattle.std.specs.Ordering.{nat_cmp}
use Rattle.std.specs.FinMap as map
use Rattle.std.proofs.lemmas.Bool.{false≢true}
use Rattle.std.proofs.lemmas.Bool.Decides.{nat_tests}
use Rattle.simplex_view_maps.specs.Tracked.{at_or_above, below}
use Rattle.std.specs.Prelude.{option_map}
use Rattle.std.specs.FinMap.Entries.{is_sorted}
use Rattle.simplex_view_maps.proofs.Maps.{entries-retain_keys, sorted_from_entries}
use Rattle.simplex_voter.proofs.Stalls.{filter-filter}

-- a walk over a list for the first element that gives something
module _ {A B : Type 0} (h : A → Option B) (all es : List A)
    (rest : slice_get (filter_map h all) 0 ≡ slice_get (filter_map h es) 0) where
  pub given_here : (x : A) (xs : List A) → es ≡ x ∷ xs → (found : Option B) → found ≡ h x → true ≡ is_some found
      → found ≡ slice_get (filter_map h all) 0
  given_here x xs is None gives some = absurd (false≢true (sym some))
  given_here x xs is (Some b) gives some = sym (rest ∙ ap (λ ys. slice_get (filter_map h ys) 0) is ∙ rw (← gives) refl)

  pub given_next : (x : A) (xs : List A) → es ≡ x ∷ xs → (found : Option B) → found ≡ h x → false ≡ is_some found
      → slice_get (filter_map h all) 0 ≡ slice_get (filter_map h xs) 0
  given_next x xs is None gives none = rest ∙ ap (λ ys. slice_get (filter_map h ys) 0) is ∙ rw (← gives) refl
  given_next x xs is (Some b) gives none = absurd (false≢true none)

  pub given_nowhere : es ≡ [] → None ≡ slice_get (filter_map h all) 0
  given_nowhere is = sym (rest ∙ ap (λ ys. slice_get (filter_map h ys) 0) is)

within_both : (low high v : ℕ) → (ltb v (high + 1) && leb low v) ≡ (leb low v && leb v high)
within_both low high v = grind (arith, nat_tests)

-- the entries from one view to another
pub entries_between : {V : Type 0} (m : map.FinMap nat_cmp V) (low high : ℕ)
    → map.entries (at_or_above (below m (high + 1)) low) ≡ filter (λ e. leb low e.0 && leb e.0 high) (map.entries m)
entries_between {V} m low high =
    entries-retain_keys (below m (high + 1)) (λ u. leb low u)
    ∙ ap (filter (λ e. leb low e.0)) (entries-retain_keys m (λ u. ltb u (high + 1)))
    ∙ filter-filter (λ (e : ℕ × V). ltb e.0 (high + 1)) (λ e. leb low e.0) (λ e. leb low e.0 && leb e.0 high)
    (λ e. within_both low high e.0) (map.entries m)

module _ {V : Type 0} (es : List (ℕ × V)) (m : map.FinMap nat_cmp V) (shown : es ≡ map.entries m) where
  pub in_order : is_sorted nat_cmp es ≡ true
  in_order = sorted_from_entries es m shown

  pub within_shown : (low high next : ℕ) (ds : List (ℕ × V)) → next ≡ high + 1
      → ds ≡ map.entries (at_or_above (below m next) low) → ds ≡ filter (λ e. leb low e.0 && leb e.0 high) es
  within_shown low high next ds is read =
      read ∙ ap (λ n. map.entries (at_or_above (below m n) low)) is ∙ entries_between m low high
      ∙ ap (filter (λ e. leb low e.0 && leb e.0 high)) (sym shown)

-- the view of the first of some entries
pub first_none : {A B : Type 0} (f : A → B) (xs : List A) → length xs ≡ 0 → None ≡ option_map f (slice_get xs 0)
first_none f [] none = refl
first_none f (x ∷ xs) none = absurd (omega (arith, none))
