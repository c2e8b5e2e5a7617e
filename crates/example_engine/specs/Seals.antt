-- What the scheme of the example signs, and which certificates it accepts.
use Rattle.std.specs.Prelude.{◌≡◌, ℕ, Bool, ◌&&◌, ◌==◌, List, ◌++◌, length, take, drop, slice_get, Option, Some, None, MatchOption, if◌then◌else◌, nat_le, nat_lt}
use Rattle.std.specs.Int.{w32, w64, to_be_bytes, from_be_bytes}
use Rattle.simplex_types.specs.declared.types.messages.Subject.{Subject}
use Rattle.simplex_types.specs.Encoding.{subject_bytes}
use Rattle.simplex_types.specs.Quorums.{quorum_of}
use Rattle.example_engine.specs.declared.digest.BlockDigest.{BlockDigest}
use Rattle.example_engine.specs.declared.scheme.MemberKey.{MemberKey}
use Rattle.example_engine.specs.declared.scheme.Signature.{Signature}
use Rattle.example_engine.specs.declared.scheme.Seal.{Seal}
use Rattle.example_engine.specs.declared.scheme.SealScheme.{SealScheme}
use Rattle.example_engine.specs.Checksum.{checksum_from}
use Rattle.example_engine.specs.Digests.{block_bytes}
use Rattle.example_engine.specs.MemberIndexes.{are_members}

-- the member that the scheme signs as
abbrev pub seal_signer : SealScheme → Option ℕ
seal_signer s = s.signer

-- the keys of all members
abbrev pub seal_keys : SealScheme → List MemberKey
seal_keys s = s.keys.items

-- a certificate's own bytes: its signers
abbrev pub seal_bytes : Seal → List ℕ
seal_bytes seal = seal.signers.items

-- the sum of the vote's bytes, begun at the key
abbrev pub IsSignature : MemberKey → Subject BlockDigest → Signature → Type 0
IsSignature key subject signature =
    (signature.key ≡ key) × (signature.sum ≡ checksum_from key.number (subject_bytes block_bytes subject))

-- the signature is one of the member's key on the subject
abbrev pub IsSignedBy : SealScheme → ℕ → Subject BlockDigest → Signature → Type 0
IsSignedBy s member subject signature =
    MatchOption (slice_get (seal_keys s) member) ⊥ (λ key. IsSignature key subject signature)

-- the key in four bytes, and then the sum in eight, big-endian
abbrev pub signature_encoding : Signature → List ℕ
signature_encoding s = to_be_bytes w32 s.key.number ++ to_be_bytes w64 s.sum

-- a signature read from its twelve bytes
abbrev pub signature_from_bytes : List ℕ → Option Signature
signature_from_bytes bytes =
    if length bytes == 12
    then Some (record {
      key = record { number = from_be_bytes w32 (take 4 bytes) };
      sum = from_be_bytes w64 (drop 4 bytes);
    })
    else None

-- a quorum of rising members
abbrev pub is_good : SealScheme → Seal → Bool
is_good s seal =
    nat_lt 0 (length (seal_keys s)) && nat_le (quorum_of (length (seal_keys s))) (length (seal_bytes seal))
    && are_members (length (seal_keys s)) 0 (seal_bytes seal)
