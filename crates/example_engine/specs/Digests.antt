-- A block's digest as contracts see it, and why equal bytes are equal digests.
use Rattle.std.specs.Prelude.{◌≡◌, ℕ, List, true, length}
use Rattle.std.specs.Str.{bytes_eq}
use Rattle.std.proofs.Common.{ap, refl}
use Rattle.std.proofs.lemmas.Slice.Eq.{bytes_eq-Decides}
use mathlib.Core.HLevel.{Σ_prop_path, hedberg}
use native.Mathlib.Decide.{ℕ_discrete}
use Rattle.example_engine.specs.declared.digest.BlockDigest.{BlockDigest}

-- the bytes of a block's digest
abbrev pub block_bytes : BlockDigest → List ℕ
block_bytes d = d.bytes

-- digests of the same bytes are equal
pub same_bytes : (d e : BlockDigest) → d.bytes ≡ e.bytes → d ≡ e
same_bytes d e same =
    ap (λ (t : (bs : List ℕ) × (length bs ≡ 8)). let made : BlockDigest = record { bytes = t.0; sized = t.1 } in made)
    (Σ_prop_path (λ bs. hedberg ℕ_discrete (length bs) 8) same)

-- they are equal if the code finds them equal
pub from_eq : (d e : BlockDigest) → bytes_eq d.bytes e.bytes ≡ true → d ≡ e
from_eq d e h = same_bytes d e ((bytes_eq-Decides d.bytes e.bytes).0 h)

-- the code finds a digest equal to itself
pub eq_self : (d : BlockDigest) → bytes_eq d.bytes d.bytes ≡ true
eq_self d = (bytes_eq-Decides d.bytes d.bytes).1 refl
