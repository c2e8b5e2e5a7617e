-- Why bytes are no certificate's encoding. Each error says what is wrong; out of memory says nothing about the bytes.
use Rattle.std.specs.Prelude.{◌≡◌, ◌<◌, ◌≤◌, ◌+◌, ◌^◌, ℕ, zero, suc, List, [], ◌∷◌, ◌++◌, length, take, drop, Result, IfOk, IsOkUnless}
use Rattle.simplex_types.specs.declared.types.numbers.Round.{Round}
use Rattle.simplex_types.specs.declared.types.messages.Proposal.{Proposal}
use Rattle.simplex_types.specs.declared.types.messages.Subject.{Subject}
use Rattle.simplex_types.specs.declared.types.messages.Subject.TheVariants as subject
use Rattle.simplex_types.specs.declared.types.messages.Certificate.{Certificate}
use Rattle.simplex_types.specs.Certificates.{certificate_facts}
use Rattle.simplex_types.specs.Encoding.{round_bytes, proposal_bytes, encoding, IsEncodableRound, IsEncodable}
use Rattle.simplex_codec.specs.declared.error.DecodeError.{DecodeError}
use Rattle.simplex_codec.specs.declared.error.DecodeError.TheVariants.{OutOfMemory, TooShort, UnknownKind, UnreadablePayload, UnreadableCertificate}
use Rattle.simplex_codec.specs.Decoded.{NoneHas}

-- its numbers fit in the bytes that an encoding has for them
abbrev pub IsEncodableProposal : {D : Type 0} → Proposal D → Type 0
IsEncodableProposal p = IsEncodableRound p.round × (p.parent < 2 ^ 64)

-- the numbers of a subject fit
abbrev pub IsEncodableSubject : {D : Type 0} → Subject D → Type 0
IsEncodableSubject (subject.Notarize p) = IsEncodableProposal p
IsEncodableSubject (subject.Nullify r) = IsEncodableRound r
IsEncodableSubject (subject.Finalize p) = IsEncodableProposal p

-- a proposal, followed by bytes that are not readable
pub record IsUnreadableBehindProposal {D : Type 0} (payload_bytes : D → List ℕ) (is_unreadable : List ℕ → Type 0)
    (bytes : List ℕ) : Type 0 where
  pub proposal : Proposal D
  pub own : List ℕ
  pub fits : IsEncodableProposal proposal
  pub parts : bytes ≡ proposal_bytes payload_bytes proposal ++ own
  pub unreadable : is_unreadable own

-- a round, followed by bytes that are not readable
pub record IsUnreadableBehindRound (is_unreadable : List ℕ → Type 0) (bytes : List ℕ) : Type 0 where
  pub round : Round
  pub own : List ℕ
  pub fits : IsEncodableRound round
  pub parts : bytes ≡ round_bytes round ++ own
  pub unreadable : is_unreadable own

-- why bytes are not `before` bytes and then a payload of this size
abbrev pub IsPayloadRefusal : {D : Type 0} → (D → List ℕ) → ℕ → ℕ → List ℕ → DecodeError → Type 0
IsPayloadRefusal payload_bytes before size bytes TooShort = length bytes < before + size
IsPayloadRefusal payload_bytes before size bytes UnreadablePayload =
    (before + size ≤ length bytes) × NoneHas payload_bytes (take size (drop before bytes))
IsPayloadRefusal payload_bytes before size bytes _ = ⊥

-- why bytes are not a proposal, three numbers and a payload, and a certificate after it
abbrev pub IsProposalRefusal : {D C : Type 0} → (D → List ℕ) → ℕ → (C → List ℕ) → List ℕ → DecodeError → Type 0
IsProposalRefusal payload_bytes size bytes_of bytes OutOfMemory = Unit {0}
IsProposalRefusal payload_bytes size bytes_of bytes UnreadableCertificate =
    IsUnreadableBehindProposal payload_bytes (NoneHas bytes_of) bytes
IsProposalRefusal payload_bytes size bytes_of bytes error = IsPayloadRefusal payload_bytes 24 size bytes error

-- why bytes are not a round and a certificate after it
abbrev pub IsRoundRefusal : {C : Type 0} → (C → List ℕ) → List ℕ → DecodeError → Type 0
IsRoundRefusal bytes_of bytes OutOfMemory = Unit {0}
IsRoundRefusal bytes_of bytes TooShort = length bytes < 16
IsRoundRefusal bytes_of bytes UnreadableCertificate = IsUnreadableBehindRound (NoneHas bytes_of) bytes
IsRoundRefusal bytes_of bytes _ = ⊥

-- why bytes are no certificate's encoding: by the kind, which is 0 for a notarization, 1 for a nullification, 2 for a
-- finalization, it is what is wrong after it
abbrev pub IsCertificateRefusal : {D C : Type 0} → (D → List ℕ) → ℕ → (C → List ℕ) → List ℕ → DecodeError → Type 0
IsCertificateRefusal payload_bytes size bytes_of [] error = error ≡ TooShort
IsCertificateRefusal payload_bytes size bytes_of (zero ∷ rest) error =
    IsProposalRefusal payload_bytes size bytes_of rest error
IsCertificateRefusal payload_bytes size bytes_of (suc zero ∷ rest) error = IsRoundRefusal bytes_of rest error
IsCertificateRefusal payload_bytes size bytes_of (suc (suc zero) ∷ rest) error =
    IsProposalRefusal payload_bytes size bytes_of rest error
IsCertificateRefusal payload_bytes size bytes_of (suc (suc (suc more)) ∷ rest) error =
    error ≡ UnknownKind (suc (suc (suc more)))

-- an encoding of any certificate is read back, with the same facts, unless memory runs out
abbrev pub ReadsCertificates : {S D K G C : Type 0} → (D → List ℕ) → (C → List ℕ) → List ℕ
    → Result (Certificate S D K G C) DecodeError → Type 0
ReadsCertificates {S} {D} {K} {G} {C} payload_bytes bytes_of bytes result =
    (c : Certificate S D K G C) → IsEncodable (certificate_facts bytes_of c)
    → encoding payload_bytes (certificate_facts bytes_of c) ≡ bytes
    → IfOk result (λ d. certificate_facts bytes_of d ≡ certificate_facts bytes_of c) × IsOkUnless result OutOfMemory
