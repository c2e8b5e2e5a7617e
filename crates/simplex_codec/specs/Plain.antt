-- The bytes of plain signatures, and the values read from them.
use Rattle.std.specs.Prelude.{◌≡◌, ℕ, zero, suc, List, ◌∷◌, Option, Some, None, option_map, length, ◌==◌, nat_lt, if◌then◌else◌, take, drop, ◌++◌}
use native.Mathlib.Decide.{ℕ_discrete}
use Rattle.std.specs.Int.{w32, w64, to_be_bytes, from_be_bytes}
use Rattle.simplex_types.specs.declared.types.numbers.Round.{Round}
use Rattle.simplex_types.specs.declared.types.messages.Proposal.{Proposal}
use Rattle.simplex_types.specs.declared.types.messages.Subject.{Subject}
use Rattle.simplex_types.specs.declared.types.messages.Subject.TheVariants as subject
use Rattle.simplex_types.specs.declared.types.plain.PlainDigest.{PlainDigest}
use Rattle.simplex_types.specs.declared.types.plain.PlainSignature.{PlainSignature}
use Rattle.simplex_types.specs.Encoding.{subject_bytes}
use Rattle.simplex_types.specs.Plain.{digest_bytes}

-- the key, four bytes big-endian, and then what a vote on the subject signs
abbrev pub plain_signature_bytes : PlainSignature → List ℕ
plain_signature_bytes s = to_be_bytes w32 s.key.0 ++ subject_bytes digest_bytes s.subject

-- the digest of these bytes, given whether they are eight
abbrev pub digest_if : (bytes : List ℕ) → Dec (length bytes ≡ 8) → Option PlainDigest
digest_if bytes (yes sized) = Some (record { bytes = bytes; sized = sized })
digest_if bytes (no _) = None

-- the digest of these bytes, if they are eight
abbrev pub plain_digest_of : List ℕ → Option PlainDigest
plain_digest_of bytes = digest_if bytes (ℕ_discrete (length bytes) 8)

-- the number in the eight bytes from a place on, big-endian
abbrev pub number_at : ℕ → List ℕ → ℕ
number_at place bytes = from_be_bytes w64 (take 8 (drop place bytes))

-- the round at the front: an epoch and a view
abbrev pub front_round : List ℕ → Round
front_round bytes = record { epoch = number_at 0 bytes; view = number_at 8 bytes }

-- the round in the bytes, if there are sixteen
abbrev pub plain_round_of : List ℕ → Option Round
plain_round_of bytes = if length bytes == 16 then Some (front_round bytes) else None

-- the proposal in the bytes: a round, the parent, and a payload of all the bytes after them
abbrev pub plain_proposal_of : List ℕ → Option (Proposal PlainDigest)
plain_proposal_of bytes = option_map
    (λ payload. record { round = front_round bytes; parent = number_at 16 bytes; payload = payload })
    (plain_digest_of (drop 24 bytes))

-- the subject that a vote signed as these bytes: 0 marks a vote to notarize, 1 one to nullify, 2 one to finalize
abbrev pub plain_subject_of : List ℕ → Option (Subject PlainDigest)
plain_subject_of (zero ∷ rest) = option_map (λ p. subject.Notarize p) (plain_proposal_of rest)
plain_subject_of (suc zero ∷ rest) = option_map (λ r. subject.Nullify r) (plain_round_of rest)
plain_subject_of (suc (suc zero) ∷ rest) = option_map (λ p. subject.Finalize p) (plain_proposal_of rest)
plain_subject_of _ = None

-- a plain signature read back: its key in four bytes, and what was signed
abbrev pub plain_signature_of : List ℕ → Option PlainSignature
plain_signature_of bytes = if nat_lt (length bytes) 4
    then None
    else option_map (λ s. record { key = record { 0 = from_be_bytes w32 (take 4 bytes) }; subject = s })
    (plain_subject_of (drop 4 bytes))
