-- The scheme of a host that is written in another language, as contracts see it.
use Rattle.std.specs.Prelude.{◌≡◌, ℕ, List, map, length, Option, Some, None, nat_lt, if◌then◌else◌, take, drop, ◌++◌}
use Rattle.std.specs.Int.{w32, to_be_bytes, from_be_bytes}
use Rattle.std.specs.List.{range_with_len}
use Rattle.simplex_types.specs.declared.types.messages.Subject.{Subject}
use Rattle.simplex_types.specs.Encoding.{subject_bytes}
use Rattle.ffi_scheme.specs.declared.scheme.HostKey.{HostKey}
use Rattle.ffi_scheme.specs.declared.scheme.HostScheme.{HostScheme}
use Rattle.ffi_scheme.specs.declared.scheme.HostCertificate.{HostCertificate}
use Rattle.ffi_scheme.specs.declared.scheme.Order.{Order}

-- the member that a scheme signs for, if it has a key
abbrev pub host_signer : HostScheme → Option ℕ
host_signer s = s.signer

-- the keys of all members
abbrev pub host_keys : HostScheme → List HostKey
host_keys s = s.keys.items

-- the bytes of a certificate
abbrev pub certificate_bytes : HostCertificate → List ℕ
certificate_bytes c = c.bytes

-- the text that a member of a network signs: the namespace, and then the bytes of exactly this subject
abbrev pub signed_text : {D : Type 0} → (D → List ℕ) → List ℕ → Subject D → List ℕ
signed_text payload_bytes namespace subject = namespace ++ subject_bytes payload_bytes subject

-- the order is to sign, under this key, the text of exactly this subject in the network of the key
abbrev pub IsOrder : {D : Type 0} → (D → List ℕ) → HostKey → Subject D → Order → Type 0
IsOrder payload_bytes key subject order =
    (order.index ≡ key.index) × (order.text ≡ signed_text payload_bytes key.namespace subject)

-- the key of a member of a network
abbrev pub host_key_in : List ℕ → ℕ → HostKey
host_key_in namespace index = record { namespace = namespace; index = index }

-- the keys of the members of a network below a number, in order
abbrev pub host_keys_in : List ℕ → ℕ → List HostKey
host_keys_in namespace n = map (host_key_in namespace) (range_with_len 0 n)

-- the index, four bytes big-endian, and then the text
abbrev pub order_bytes : Order → List ℕ
order_bytes s = to_be_bytes w32 s.index ++ s.text

-- an order read back: the member's index in four bytes, and what to sign
abbrev pub order_of : List ℕ → Option Order
order_of bytes = if nat_lt (length bytes) 4 then None
    else Some (record { index = from_be_bytes w32 (take 4 bytes); text = drop 4 bytes })
