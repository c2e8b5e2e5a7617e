-- Definitions for a finite map from views.
use Rattle.std.specs.Prelude.{ℕ, ◌<◌, ◌≤◌, ◌^◌, ◌-◌, nat_lt, nat_le, Option, Some, None, Result, Ok, Err, slice_get, length, List, map as map_list, Box}
use Rattle.std.specs.Ordering.{nat_cmp}
use Rattle.std.specs.FinMap.{FinMap, entries, insert, retain_keys}
use Rattle.simplex_types.specs.declared.types.fault.AllocFailed.{AllocFailed}

-- the entries of the views below a view
abbrev pub below : {V : Type 0} → FinMap nat_cmp V → ℕ → FinMap nat_cmp V
below m view = retain_keys m (λ key. nat_lt key view)

-- the entries of the views at or above a view
abbrev pub at_or_above : {V : Type 0} → FinMap nat_cmp V → ℕ → FinMap nat_cmp V
at_or_above m view = retain_keys m (λ key. nat_le view key)

-- the entry of the lowest view, and of the highest
abbrev pub first_entry : {V : Type 0} → FinMap nat_cmp V → Option (ℕ × V)
first_entry m = slice_get (entries m) 0

-- the entry of the highest view
abbrev pub last_entry : {V : Type 0} → FinMap nat_cmp V → Option (ℕ × V)
last_entry m = slice_get (entries m) (length (entries m) - 1)

-- the map after an insert, by its result: the value is added if the result says that there was none
abbrev pub after_insert : {V : Type 0} → FinMap nat_cmp V → ℕ → V → Result (Option V) (AllocFailed V) → FinMap nat_cmp V
after_insert m view value (Ok None) = insert m view value
after_insert m view value (Ok (Some standing)) = m
after_insert m view value (Err refused) = m

-- count is at most the number of binary digits of n, that is, at most each d for which d digits are enough
abbrev pub IsAtMostBinaryDigits : ℕ → ℕ → Type 0
IsAtMostBinaryDigits count n = (d : ℕ) → n < 2 ^ d → count ≤ d

-- entries whose values are in boxes
abbrev pub unboxed : {V A : Type 0} → List (ℕ × Box V A) → List (ℕ × V)
unboxed es = map_list (λ e. (e.0, e.1.value)) es
