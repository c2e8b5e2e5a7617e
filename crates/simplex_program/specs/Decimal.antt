-- Decimal numbers in lines and arguments.
use Rattle.std.specs.Prelude.{◌≡◌, ◌≢◌, ℕ, ◌^◌, ◌<◌, ◌≤◌, List, length, slice_get, decimal, Option, Some, MatchOption}

-- the number that the word writes in decimal, without a sign or leading zeros, if it writes one of 64 bits
abbrev pub ReadsDecimal : List ℕ → Option ℕ → Type 0
ReadsDecimal word r = MatchOption r ((n : ℕ) → n < 2 ^ 64 → word ≢ decimal n) (λ n. word ≡ decimal n)

-- the same for a number in bounds
abbrev pub ReadsBetween : ℕ → ℕ → List ℕ → Option ℕ → Type 0
ReadsBetween least most word r = MatchOption r
    ((n : ℕ) → least ≤ n → n ≤ most → word ≢ decimal n)
    (λ n. (least ≤ n) × (n ≤ most) × (word ≡ decimal n))

-- no `+` in front, and no leading `0` unless it is alone
abbrev pub IsUnpadded : List ℕ → Type 0
IsUnpadded word = (slice_get word 0 ≢ Some 43) × (slice_get word 0 ≡ Some 48 → length word ≡ 1)
