-- Numbers at the front of bytes, big-endian.
use Rattle.std.proofs.Common.{◌≡◌, ℕ, ◌<◌, ◌≤◌, List, [], ◌∷◌, ◌++◌, ◌==◌, true, refl, length, get_or, take, drop, ap, sym, ◌∙◌, inl, inr, arith}
use Rattle.std.specs.Int.{w32, w64, to_be_bytes, from_be_bytes}
use Rattle.std.proofs.lemmas.Bool.{cases_lt}
use Rattle.std.proofs.lemmas.List.{take-append-drop, length-take, length-take-le, get_or-take, get_or_past}
use Rattle.std.proofs.lemmas.Grind.{common_steps}
use Rattle.std.proofs.lemmas.Nat.{be_bytes_4, be_bytes_8}

abbrev pub IsBytes : List ℕ → Type 0
IsBytes bytes = (i : ℕ) → get_or bytes i 0 < 256

IsBytes-take : (n : ℕ) (bytes : List ℕ) → IsBytes bytes → IsBytes (take n bytes)
IsBytes-take n bytes h i =
    elim (cases_lt i n) [
      | inl lt ↦ rw (get_or-take n bytes i 0 lt) (h i)
      | inr le ↦ rw (get_or_past (take n bytes) i 0 (omega (arith, length-take n bytes))) (omega arith)
    ]

pub front_8 : (bytes front rest : List ℕ) (n : ℕ) → IsBytes bytes → 8 ≤ length bytes → front ≡ take 8 bytes
    → rest ≡ drop 8 bytes → n ≡ from_be_bytes w64 front → bytes ≡ to_be_bytes w64 n ++ rest
front_8 bytes front rest n fits long first second value =
    let parts = be_bytes_8 (take 8 bytes) n (length-take-le 8 bytes long) (IsBytes-take 8 bytes fits)
    (value ∙ ap (from_be_bytes w64) first) in
    sym (ap (λ xs. to_be_bytes w64 n ++ xs) second ∙ ap (λ xs. xs ++ drop 8 bytes) parts ∙ take-append-drop 8 bytes)

pub front_4 : (bytes front rest : List ℕ) (n : ℕ) → IsBytes bytes → 4 ≤ length bytes → front ≡ take 4 bytes
    → rest ≡ drop 4 bytes → n ≡ from_be_bytes w32 front → bytes ≡ to_be_bytes w32 n ++ rest
front_4 bytes front rest n fits long first second value =
    let parts = be_bytes_4 (take 4 bytes) n (length-take-le 4 bytes long) (IsBytes-take 4 bytes fits)
    (value ∙ ap (from_be_bytes w32) first) in
    sym (ap (λ xs. to_be_bytes w32 n ++ xs) second ∙ ap (λ xs. xs ++ drop 4 bytes) parts ∙ take-append-drop 4 bytes)

pub none_left : (xs : List ℕ) → (length xs == 0) ≡ true → xs ≡ []
none_left [] empty = refl
none_left (x ∷ xs) empty = grind (arith, common_steps)
