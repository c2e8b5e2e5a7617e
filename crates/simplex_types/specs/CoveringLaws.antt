-- The laws of covering within a term.
use Rattle.std.specs.Prelude.{◌≡◌, ◌↔◌, ℕ, ◌<◌, ◌≤◌, true, false}
use Rattle.simplex_types.specs.Terms.{term_start, term_end, covers}

-- for terms of at least one view, and nullified views above genesis
pub record CoveringLaws : Type 0 where
  -- a nullification covers its own view and the rest of its term
  pub ahead : (length u view : ℕ) → 0 < length → 1 ≤ u → (covers length u view ≡ true)
      ↔ ((u ≤ view) × (view ≤ term_end length u))
  -- what covers a view lies between the term's start and the view
  pub behind : (length u view : ℕ) → 0 < length → 1 ≤ u → 1 ≤ view → (covers length u view ≡ true)
      ↔ ((term_start length view ≤ u) × (u ≤ view))
  -- nothing covers genesis
  pub genesis : (length u : ℕ) → 1 ≤ u → covers length u 0 ≡ false
  -- what covers a view covers the views after it in its term
  pub onward : (length u view later : ℕ) → 0 < length → 1 ≤ u → covers length u view ≡ true → view ≤ later
      → later ≤ term_end length view
      → covers length u later ≡ true
