-- The certificate of the host's votes: a list of their signatures.
use Rattle.std.specs.Prelude.{ℕ, List, length, ◌++◌, flat_map}
use Rattle.std.specs.Int.{w32, w64, to_be_bytes}
use Rattle.ffi_scheme.specs.declared.scheme.Order.{Order}

-- the signer, in four bytes, the length of the signature, in eight, and the signature
abbrev pub signature_bytes : ℕ → Order → List ℕ
signature_bytes member order = to_be_bytes w32 member ++ (to_be_bytes w64 (length order.text) ++ order.text)

-- the same for all signers, one after another
abbrev pub signed_bytes : List (ℕ × Order) → List ℕ
signed_bytes signatures = flat_map (λ s. signature_bytes s.0 s.1) signatures
