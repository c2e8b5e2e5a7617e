-- A digest as contracts see it: its bytes.
use Rattle.std.specs.Prelude.{◌≡◌, ℕ, List, true, length}
use Rattle.std.specs.Str.{bytes_eq}
use Rattle.std.proofs.Common.{ap, refl}
use Rattle.std.proofs.lemmas.Slice.Eq.{bytes_eq-Decides}
use mathlib.Core.HLevel.{Σ_prop_path, hedberg}
use native.Mathlib.Decide.{ℕ_discrete}
use Rattle.simplex_codec.specs.declared.digest.BytesDigest.{BytesDigest}

-- the bytes of a digest
abbrev pub bytes_in_digest : {n : ℕ} → BytesDigest n → List ℕ
bytes_in_digest d = d.bytes

-- digests of the same bytes are equal
pub same_digest : {n : ℕ} (d e : BytesDigest n) → d.bytes ≡ e.bytes → d ≡ e
same_digest {n} d e same =
    ap (λ (t : (bs : List ℕ) × (length bs ≡ n)). let made : BytesDigest n = record { bytes = t.0; sized = t.1 } in made)
    (Σ_prop_path (λ bs. hedberg ℕ_discrete (length bs) n) same)

-- so they are equal if the code finds them equal
pub digest_from_eq : {n : ℕ} (d e : BytesDigest n) → bytes_eq d.bytes e.bytes ≡ true → d ≡ e
digest_from_eq d e h = same_digest d e ((bytes_eq-Decides d.bytes e.bytes).0 h)

-- the code finds a digest equal to itself
pub digest_eq_self : {n : ℕ} (d : BytesDigest n) → bytes_eq d.bytes d.bytes ≡ true
digest_eq_self d = (bytes_eq-Decides d.bytes d.bytes).1 refl
