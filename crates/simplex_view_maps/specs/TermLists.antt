-- A list of terms, each with the list of its views.
use Rattle.std.specs.Prelude.{◌≡◌, ℕ, ◌<◌, true, IfSome}
use Rattle.std.specs.List.{flat_map}
use Rattle.std.specs.Ordering.{nat_cmp}
use Rattle.std.specs.FinMap.{FinMap, entries, values, from_entries, get, contains_key, len}
use Rattle.simplex_types.specs.Terms.{term_start}

module _ {V : Type 0} where
  -- the entries of each term, one term after another
  abbrev pub joined : FinMap nat_cmp (FinMap nat_cmp V) → FinMap nat_cmp V
  joined terms = from_entries (flat_map entries (values terms))

  -- some views, all of the term that starts at a view
  abbrev pub IsOfTerm : ℕ → ℕ → FinMap nat_cmp V → Type 0
  IsOfTerm length start views =
      (0 < len views) × ((view : ℕ) → contains_key views view ≡ true → term_start length view ≡ start)

  -- each term has views, and only its own
  abbrev pub AreByTerm : ℕ → FinMap nat_cmp (FinMap nat_cmp V) → Type 0
  AreByTerm length terms = (start : ℕ) → IfSome (get terms start) (IsOfTerm length start)
