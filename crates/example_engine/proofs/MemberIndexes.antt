-- Members by rising index are members.
use Rattle.std.proofs.Common.{ℕ, zero, suc, ◌+◌, ◌<◌, List, [], ◌∷◌, length, get_or, arith}
use Rattle.simplex_types.specs.Quorums.{AreRising}

pub rising_below : {G : Type 0} (members lowest : ℕ) (signatures : List (ℕ × G)) (place : ℕ) (other : ℕ × G)
    → AreRising members lowest signatures → place < length signatures → (get_or signatures place other).0 < members
rising_below members lowest [] place other rising within = omega (arith, within)
rising_below members lowest (signed ∷ rest) zero other rising within = rising.1
rising_below members lowest (signed ∷ rest) (suc place) other rising within =
    rising_below members (signed.0 + 1) rest place other rising.2 (omega (arith, within))
