-- The bytes of an artifact: those of a certificate are its encoding; a vote is its kind, its signer in four bytes, its
-- subject and last the signature; a verdict is its kind, its round and one byte.
use Rattle.std.specs.Prelude.{◌≡◌, ◌<◌, ◌≤◌, ◌^◌, ℕ, zero, suc, Bool, List, [], ◌∷◌, ◌++◌, length, get_or, Option, Some, None, IfSome, Result, IfOk, IsOkUnless, if◌then◌else◌}
use Rattle.std.specs.Int.{w32, to_be_bytes}
use Rattle.simplex_types.specs.declared.types.numbers.Round.{Round}
use Rattle.simplex_types.specs.declared.types.messages.Proposal.{Proposal}
use Rattle.simplex_types.specs.declared.types.messages.Artifact.{Artifact}
use Rattle.simplex_types.specs.declared.types.messages.Artifact.TheVariants as artifact
use Rattle.simplex_types.specs.Certificates.{Notarized, Nullified, Finalized, notarization_facts, nullification_facts, finalization_facts, artifact_facts, signature_in}
use Rattle.simplex_types.specs.Encoding.{round_bytes, proposal_bytes, encoding, IsEncodableRound}
use Rattle.simplex_codec.specs.declared.error.DecodeError.{DecodeError}
use Rattle.simplex_codec.specs.declared.error.DecodeError.TheVariants.{OutOfMemory, TooShort, UnreadableSignature, UnknownVerdict, TrailingBytes}
use Rattle.simplex_codec.specs.Refusals.{IsEncodableProposal, IsUnreadableBehindProposal, IsUnreadableBehindRound, IsPayloadRefusal, IsCertificateRefusal}

-- the signer, the proposal and the signature's bytes
abbrev pub signed_proposal_bytes : {D : Type 0} → (D → List ℕ) → ℕ → Proposal D → List ℕ → List ℕ
signed_proposal_bytes payload_bytes signer proposal own =
    to_be_bytes w32 signer ++ (proposal_bytes payload_bytes proposal ++ own)

-- the signer, the round and the signature's bytes
abbrev pub signed_round : ℕ → Round → List ℕ → List ℕ
signed_round signer round own = to_be_bytes w32 signer ++ (round_bytes round ++ own)

-- the bytes of a verdict
abbrev pub verdict_bytes : Round → Bool → List ℕ
verdict_bytes round success = round_bytes round ++ ((if success then 1 else 0) ∷ [])

-- the encoding of an artifact: 0 to 2 mark certificates, 3 a vote to notarize, 4 to nullify, 5 to finalize, 6 a verdict
abbrev pub artifact_bytes : {S D K G C : Type 0} → (D → List ℕ) → (C → List ℕ) → (G → List ℕ)
    → Artifact S D K G C → List ℕ
artifact_bytes payload_bytes bytes_of _ (artifact.Notarization n) =
    encoding payload_bytes (Notarized (notarization_facts bytes_of n))
artifact_bytes payload_bytes bytes_of _ (artifact.Nullification n) =
    encoding payload_bytes (Nullified (nullification_facts bytes_of n))
artifact_bytes payload_bytes bytes_of _ (artifact.Finalization f) =
    encoding payload_bytes (Finalized (finalization_facts bytes_of f))
artifact_bytes payload_bytes _ signed (artifact.Notarize vote) =
    3 ∷ signed_proposal_bytes payload_bytes vote.signer vote.proposal (signed vote.signature)
artifact_bytes payload_bytes _ signed (artifact.Nullify vote) =
    4 ∷ signed_round vote.signer vote.round (signed vote.signature)
artifact_bytes payload_bytes _ signed (artifact.Finalize vote) =
    5 ∷ signed_proposal_bytes payload_bytes vote.signer vote.proposal (signed vote.signature)
artifact_bytes _ _ _ (artifact.Certification round success) = 6 ∷ verdict_bytes round success

-- the numbers of an artifact fit, as those of each artifact of the program do
abbrev pub IsEncodableArtifact : {S D K G C : Type 0} → Artifact S D K G C → Type 0
IsEncodableArtifact (artifact.Notarization n) = IsEncodableProposal n.proposal
IsEncodableArtifact (artifact.Nullification n) = IsEncodableRound n.round
IsEncodableArtifact (artifact.Finalization f) = IsEncodableProposal f.proposal
IsEncodableArtifact (artifact.Notarize vote) = IsEncodableProposal vote.proposal × (vote.signer < 2 ^ 32)
IsEncodableArtifact (artifact.Nullify vote) = IsEncodableRound vote.round × (vote.signer < 2 ^ 32)
IsEncodableArtifact (artifact.Finalize vote) = IsEncodableProposal vote.proposal × (vote.signer < 2 ^ 32)
IsEncodableArtifact (artifact.Certification round _) = IsEncodableRound round

-- the signature, if the artifact is a vote, can be read from its bytes
abbrev pub HasReadableSignature : {S D K G C : Type 0} → (G → List ℕ) → (List ℕ → Option G)
    → Artifact S D K G C → Type 0
HasReadableSignature signature_bytes signature_of a =
    IfSome (signature_in a) (λ s. signature_of (signature_bytes s) ≡ Some s)

-- a signer in four bytes, and what follows it is refused for this reason
pub record IsSignedRefusal (is_refusal : List ℕ → Type 0) (bytes : List ℕ) : Type 0 where
  pub signer : ℕ
  pub rest : List ℕ
  pub fits : signer < 2 ^ 32
  pub parts : bytes ≡ to_be_bytes w32 signer ++ rest
  pub refused : is_refusal rest

-- why bytes are not a signer, a proposal and a signature
abbrev pub IsProposalVoteRefusal : {D G : Type 0} → (D → List ℕ) → ℕ → (List ℕ → Option G) → List ℕ
    → DecodeError → Type 0
IsProposalVoteRefusal payload_bytes size signature_of bytes OutOfMemory = Unit {0}
IsProposalVoteRefusal payload_bytes size signature_of bytes UnreadableSignature =
    IsSignedRefusal (IsUnreadableBehindProposal payload_bytes (λ own. signature_of own ≡ None)) bytes
IsProposalVoteRefusal payload_bytes size signature_of bytes error = IsPayloadRefusal payload_bytes 28 size bytes error

-- why bytes are not a signer, a round and a signature
abbrev pub IsRoundVoteRefusal : {G : Type 0} → (List ℕ → Option G) → List ℕ → DecodeError → Type 0
IsRoundVoteRefusal signature_of bytes OutOfMemory = Unit {0}
IsRoundVoteRefusal signature_of bytes TooShort = length bytes < 20
IsRoundVoteRefusal signature_of bytes UnreadableSignature =
    IsSignedRefusal (IsUnreadableBehindRound (λ own. signature_of own ≡ None)) bytes
IsRoundVoteRefusal signature_of bytes _ = ⊥

-- why bytes are not a round, in sixteen bytes, and a verdict of one byte, which is 0 or 1
abbrev pub IsVerdictRefusal : List ℕ → DecodeError → Type 0
IsVerdictRefusal bytes TooShort = length bytes < 17
IsVerdictRefusal bytes (UnknownVerdict verdict) = (17 ≤ length bytes) × (get_or bytes 16 0 ≡ verdict) × (1 < verdict)
IsVerdictRefusal bytes TrailingBytes = (17 < length bytes) × (get_or bytes 16 0 ≤ 1)
IsVerdictRefusal bytes _ = ⊥

-- why bytes are no artifact's encoding: by the kind it is what is wrong after it
abbrev pub IsArtifactRefusal : {D G C : Type 0} → (D → List ℕ) → ℕ → (C → List ℕ) → (List ℕ → Option G) → List ℕ
    → DecodeError → Type 0
IsArtifactRefusal payload size _ signature_of (suc (suc (suc zero)) ∷ rest) e =
    IsProposalVoteRefusal payload size signature_of rest e
IsArtifactRefusal payload size _ signature_of (suc (suc (suc (suc zero))) ∷ rest) e =
    IsRoundVoteRefusal signature_of rest e
IsArtifactRefusal payload size _ signature_of (suc (suc (suc (suc (suc zero)))) ∷ rest) e =
    IsProposalVoteRefusal payload size signature_of rest e
IsArtifactRefusal payload size _ signature_of (suc (suc (suc (suc (suc (suc zero))))) ∷ rest) e =
    IsVerdictRefusal rest e
IsArtifactRefusal payload size bytes_of _ bytes e = IsCertificateRefusal payload size bytes_of bytes e

-- an encoding of any artifact is read back, with the same facts and an equal signature, unless memory runs out
abbrev pub ReadsArtifacts : {S D K G C : Type 0} → (D → List ℕ) → (C → List ℕ) → (G → List ℕ)
    → (List ℕ → Option G) → List ℕ
    → Result (Artifact S D K G C) DecodeError → Type 0
ReadsArtifacts {S} {D} {K} {G} {C} payload_bytes bytes_of signature_bytes signature_of bytes result =
    (a : Artifact S D K G C) → IsEncodableArtifact a → HasReadableSignature signature_bytes signature_of a
    → artifact_bytes payload_bytes bytes_of signature_bytes a ≡ bytes
    → IfOk result (λ b. (artifact_facts bytes_of b ≡ artifact_facts bytes_of a) × (signature_in b ≡ signature_in a))
    × IsOkUnless result OutOfMemory
