-- The bytes of a certificate as members exchange them: a kind byte, then numbers of eight bytes each, big-endian,
-- the payload, and last the scheme's own bytes.
use Rattle.std.specs.Prelude.{◌≡◌, ℕ, ◌<◌, ◌^◌, List, ◌∷◌, ◌++◌}
use Rattle.std.specs.Int.{w64, to_be_bytes}
use Rattle.simplex_types.specs.declared.types.numbers.Round.{Round}
use Rattle.simplex_types.specs.declared.types.messages.Proposal.{Proposal}
use Rattle.simplex_types.specs.declared.types.messages.Subject.{Subject}
use Rattle.simplex_types.specs.declared.types.messages.Subject.TheVariants as subject
use Rattle.simplex_types.specs.Certificates.{CertificateFacts, Notarized, Nullified, Finalized}

-- the epoch and the view
abbrev pub round_bytes : Round → List ℕ
round_bytes r = to_be_bytes w64 r.epoch ++ to_be_bytes w64 r.view

-- the epoch, the view, the parent's view and the payload, by the payload's bytes
abbrev pub proposal_bytes : {D : Type 0} → (D → List ℕ) → Proposal D → List ℕ
proposal_bytes payload_bytes p = round_bytes p.round ++ to_be_bytes w64 p.parent ++ payload_bytes p.payload

-- what a vote signs: 0 marks a vote to notarize, 1 one to nullify, 2 one to finalize; then its subject
abbrev pub subject_bytes : {D : Type 0} → (D → List ℕ) → Subject D → List ℕ
subject_bytes payload_bytes (subject.Notarize p) = 0 ∷ proposal_bytes payload_bytes p
subject_bytes payload_bytes (subject.Nullify r) = 1 ∷ round_bytes r
subject_bytes payload_bytes (subject.Finalize p) = 2 ∷ proposal_bytes payload_bytes p

-- the subject of a certificate's votes
abbrev pub certificate_subject : {D : Type 0} → CertificateFacts D → Subject D
certificate_subject (Notarized c) = subject.Notarize c.proposal
certificate_subject (Nullified c) = subject.Nullify c.round
certificate_subject (Finalized c) = subject.Finalize c.proposal

-- the scheme's own bytes of a certificate
abbrev pub scheme_bytes : {D : Type 0} → CertificateFacts D → List ℕ
scheme_bytes (Notarized c) = c.bytes
scheme_bytes (Nullified c) = c.bytes
scheme_bytes (Finalized c) = c.bytes

-- the encoding of a certificate: what its votes sign, and the scheme's own bytes
abbrev pub encoding : {D : Type 0} → (D → List ℕ) → CertificateFacts D → List ℕ
encoding payload_bytes c = subject_bytes payload_bytes (certificate_subject c) ++ scheme_bytes c

-- the numbers of a round fit eight bytes each, as those of each `Round` of the program do
abbrev pub IsEncodableRound : Round → Type 0
IsEncodableRound r = (r.epoch < 2 ^ 64) × (r.view < 2 ^ 64)

-- its numbers fit in the bytes that the encoding has for them
abbrev pub IsEncodable : {D : Type 0} → CertificateFacts D → Type 0
IsEncodable (Notarized c) = IsEncodableRound c.proposal.round × (c.proposal.parent < 2 ^ 64)
IsEncodable (Nullified c) = IsEncodableRound c.round
IsEncodable (Finalized c) = IsEncodableRound c.proposal.round × (c.proposal.parent < 2 ^ 64)

-- two certificates with one encoding are of one kind, round and proposal, and have the same scheme's bytes
abbrev pub EncodingTellsApart : {D : Type 0} → (D → List ℕ) → Type 0
EncodingTellsApart {D} payload_bytes =
    (c d : CertificateFacts D) → IsEncodable c → IsEncodable d
    → encoding payload_bytes c ≡ encoding payload_bytes d → c ≡ d
