-- Values by view, of which the newest is stored apart.
use Rattle.std.specs.Prelude.{ℕ, Bool, List, Option, Some, None}
use Rattle.std.specs.FinMap.{FinMap, insert}
use Rattle.std.specs.Ordering.{nat_cmp}

-- the values, and whether there is room
pub record PendingFacts (V : Type 0) : Type 0 where
  -- by rising view
  pub entries : List (ℕ × V)
  -- one more takes no memory
  pub has_room : Bool

-- the others, with the newest, if there is one
abbrev pub with_newest : {V : Type 0} → Option (ℕ × V) → FinMap nat_cmp V → FinMap nat_cmp V
with_newest None others = others
with_newest (Some newest) others = insert others newest.0 newest.1
