-- Indexes of members.
use Rattle.std.specs.Prelude.{ℕ, Bool, true, ◌&&◌, ◌+◌, List, [], ◌∷◌, nat_le, nat_lt}

-- each is at or above the lowest that may come, and below the number of members, and the next is above it
abbrev pub are_members : ℕ → ℕ → List ℕ → Bool
are_members count low [] = true
are_members count low (m ∷ ms) = nat_le low m && nat_lt m count && are_members count (m + 1) ms
