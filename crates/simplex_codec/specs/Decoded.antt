-- Reading values from bytes.
use Rattle.std.specs.Prelude.{◌≡◌, ℕ, List, Option, Some, None}

-- no value has these bytes
abbrev pub NoneHas : {X : Type 0} → (X → List ℕ) → List ℕ → Type 0
NoneHas {X} bytes_of bytes = (x : X) → ¬ (bytes_of x ≡ bytes)

-- a value with exactly these bytes; `None` exactly if no value has them
abbrev pub ReadsBack : {X : Type 0} → (X → List ℕ) → List ℕ → Option X → Type 0
ReadsBack bytes_of bytes (Some x) = bytes_of x ≡ bytes
ReadsBack bytes_of bytes None = NoneHas bytes_of bytes
