-- Entries one after another: each is framed by its length, which checks itself, and its digest, so that a cut or
-- changed end is found, and the two cases are distinguished.
use Rattle.std.specs.Prelude.{◌≡◌, ◌≢◌, ◌<◌, ◌+◌, ◌-◌, ◌^◌, ℕ, List, ◌++◌, length, take}
use Rattle.std.specs.Int.{w32, to_be_bytes}
use Rattle.sha2.specs.Sha256.{sha256}
use Rattle.simplex_codec.specs.declared.frame.NoFrame.{NoFrame}
use Rattle.simplex_codec.specs.declared.frame.NoFrame.TheVariants.{Cut, Damaged}

-- a length in four bytes, and in four more its difference to the greatest number of four bytes, which inverts each of
-- its bits
abbrev pub header : ℕ → List ℕ
header n = to_be_bytes w32 n ++ to_be_bytes w32 (2 ^ 32 - 1 - n)

-- the header of the entry's length, the entry, and the 32 bytes of its SHA-256 digest
abbrev pub frame : List ℕ → List ℕ
frame entry = header (length entry) ++ (entry ++ sha256 entry)

-- no frame is at the front
abbrev pub HasNoFrame : List ℕ → Type 0
HasNoFrame bytes = (entry rest : List ℕ) → length entry < 2 ^ 32 → bytes ≡ frame entry ++ rest → ⊥

-- the bytes are the first of others, and more of these are to come
abbrev pub EndsWithin : List ℕ → List ℕ → Type 0
EndsWithin bytes whole = (more : List ℕ) × (0 < length more) × (whole ≡ bytes ++ more)

-- the bytes end within a frame
abbrev pub IsCut : List ℕ → Type 0
IsCut bytes = (entry : List ℕ) × (length entry < 2 ^ 32) × EndsWithin bytes (frame entry)

-- why no frame is at the front: exactly what ends within one is cut
abbrev pub IsFrameRefusal : List ℕ → NoFrame → Type 0
IsFrameRefusal bytes Cut = IsCut bytes
IsFrameRefusal bytes Damaged = ¬ (IsCut bytes)

-- neither of two begins with the other
abbrev pub PartsFrom : List ℕ → List ℕ → Type 0
PartsFrom bytes whole = (more rest : List ℕ) → bytes ++ more ≡ whole ++ rest → ⊥

-- why bytes don't begin with a front: they end within it, or part from it
abbrev pub IsOff : List ℕ → List ℕ → NoFrame → Type 0
IsOff bytes front Cut = EndsWithin bytes front
IsOff bytes front Damaged = PartsFrom bytes front

-- why bytes don't begin with a header
abbrev pub IsOffHeader : List ℕ → NoFrame → Type 0
IsOffHeader bytes Cut = (n : ℕ) × (n < 2 ^ 32) × EndsWithin bytes (header n)
IsOffHeader bytes Damaged = (n : ℕ) → n < 2 ^ 32 → PartsFrom bytes (header n)

-- bytes that begin with a frame begin with exactly one
abbrev pub FramesTellApart : Type 0
FramesTellApart =
    (entry other rest left : List ℕ) → length entry < 2 ^ 32 → length other < 2 ^ 32 → frame entry
    ++ rest ≡ frame other ++ left
    → (entry ≡ other) × (rest ≡ left)

-- which bytes are cut, after any change of a frame
pub record CutsTellApart : Type 0 where
  -- a frame that lost its end, with `left` bytes left of it
  pub cut : (entry : List ℕ) (left : ℕ) → length entry < 2 ^ 32 → left < length (frame entry)
      → IsCut (take left (frame entry))
  -- and none that has all its bytes, whatever is in place of the entry and its digest, with anything after it
  pub body : (n : ℕ) (body behind : List ℕ) → n < 2 ^ 32 → length body ≡ n + 32
      → ¬ (IsCut (header n ++ (body ++ behind)))
  -- nor one with any inverted bits in its length, in either half of its header or differently in both
  pub header : (n check : ℕ) (behind : List ℕ) → n < 2 ^ 32 → check < 2 ^ 32 → n + check ≢ 2 ^ 32 - 1
      → ¬ (IsCut (to_be_bytes w32 n ++ (to_be_bytes w32 check ++ behind)))
