-- Consecutive views.
use Rattle.std.specs.Prelude.{◌≡◌, ℕ, ◌<◌, ◌≤◌, Bool, true}

-- each view from `first` on and below `end` is in the set
abbrev pub AreIn : (ℕ → Bool) → ℕ → ℕ → Type 0
AreIn set first end = (w : ℕ) → first ≤ w → w < end → set w ≡ true
