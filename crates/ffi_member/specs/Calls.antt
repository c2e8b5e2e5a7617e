-- Which call of a member a flat call represents.
use Rattle.std.specs.Prelude.{◌≡◌, ◌⊎◌, ◌<◌, ◌≤◌, ℕ, List}
use Rattle.simplex_types.specs.declared.types.numbers.Round.{Round}
use Rattle.simplex_types.specs.declared.types.messages.Proposal.{Proposal}
use Rattle.simplex_codec.specs.declared.digest.BytesDigest.{BytesDigest}
use Rattle.simplex_codec.specs.Digests.{bytes_in_digest}
use Rattle.simplex_member.specs.Calls.{CallFacts, AddNotarization, AddNullification, AddFinalization, SetProposal, TryPropose, Proposed, SupersedeProposalRequest, PendingHandoffAbandonment, ReleaseProposalRequest, TryVerify, Verified, VerificationFailed, CertifyCandidates, SetCertifyHandle, Certified, ConstructNotarize, ConstructNullify, ConstructFinalize, BroadcastNotarization, BroadcastNullification, BroadcastFinalization, GetBestCertificate, TriggerTimeout, NextTimeout, Prune}
use Rattle.ffi_member.specs.declared.call_kind.CallKind.{CallKind}
use Rattle.ffi_member.specs.declared.call_kind.CallKind.TheVariants as kind
use Rattle.ffi_member.specs.declared.flat.FlatRound.{FlatRound}
use Rattle.ffi_member.specs.declared.flat.FlatProposal.{FlatProposal}
use Rattle.ffi_member.specs.declared.flat.FlatCall.{FlatCall}
use Rattle.ffi_member.specs.Numbers.{kind_number, reason_number, flag_number}

-- a call of a member of the host, with each certificate by its facts
abbrev pub HostCallFacts : Type 0
HostCallFacts = CallFacts (BytesDigest 32)

-- the round of these numbers
abbrev pub flat_round : FlatRound → Round
flat_round f = record { epoch = f.epoch; view = f.view }

-- a proposal has these numbers and bytes
pub record IsFlatProposal (f : FlatProposal) (q : Proposal (BytesDigest 32)) : Type 0 where
  pub round : q.round ≡ flat_round f.round
  pub parent : q.parent ≡ f.parent
  pub payload : bytes_in_digest q.payload ≡ f.payload

-- the call that a flat call of a kind represents, which passes a certificate of these bytes
abbrev pub DenotesFlatCall : CallKind → FlatCall → List ℕ → HostCallFacts → Type 0
DenotesFlatCall kind.AddNotarization f bytes (AddNotarization c) =
    IsFlatProposal f.proposal c.proposal × (c.bytes ≡ bytes)
DenotesFlatCall kind.AddNullification f bytes (AddNullification c now) =
    (c.round ≡ flat_round f.round) × (c.bytes ≡ bytes) × (now ≡ f.moment)
DenotesFlatCall kind.AddFinalization f bytes (AddFinalization c now) =
    IsFlatProposal f.proposal c.proposal × (c.bytes ≡ bytes) × (now ≡ f.moment)
DenotesFlatCall kind.SetProposal f bytes (SetProposal v q) = (v ≡ f.view) × IsFlatProposal f.proposal q
DenotesFlatCall kind.TryPropose f bytes call = call ≡ TryPropose
DenotesFlatCall kind.Proposed f bytes (Proposed v payload now) =
    (v ≡ f.view) × (bytes_in_digest payload ≡ f.proposal.payload) × (now ≡ f.moment)
DenotesFlatCall kind.SupersedeProposalRequest f bytes call = call ≡ SupersedeProposalRequest f.view
DenotesFlatCall kind.PendingHandoffAbandonment f bytes call = call ≡ PendingHandoffAbandonment f.view
DenotesFlatCall kind.ReleaseProposalRequest f bytes call = call ≡ ReleaseProposalRequest f.view
DenotesFlatCall kind.TryVerify f bytes call = call ≡ TryVerify
DenotesFlatCall kind.Verified f bytes call = call ≡ Verified f.view
DenotesFlatCall kind.VerificationFailed f bytes (VerificationFailed v reason now) =
    (v ≡ f.view) × (reason_number reason ≡ f.reason) × (now ≡ f.moment)
DenotesFlatCall kind.CertifyCandidates f bytes call = call ≡ CertifyCandidates
DenotesFlatCall kind.SetCertifyHandle f bytes call = call ≡ SetCertifyHandle f.view f.token
DenotesFlatCall kind.Certified f bytes (Certified v success now) =
    (v ≡ f.view) × (flag_number success ≡ f.success) × (now ≡ f.moment)
DenotesFlatCall kind.ConstructNotarize f bytes call = call ≡ ConstructNotarize f.view
DenotesFlatCall kind.ConstructNullify f bytes call = call ≡ ConstructNullify f.view
DenotesFlatCall kind.ConstructFinalize f bytes call = call ≡ ConstructFinalize f.view
DenotesFlatCall kind.BroadcastNotarization f bytes call = call ≡ BroadcastNotarization f.view
DenotesFlatCall kind.BroadcastNullification f bytes call = call ≡ BroadcastNullification f.view
DenotesFlatCall kind.BroadcastFinalization f bytes call = call ≡ BroadcastFinalization f.view
DenotesFlatCall kind.GetBestCertificate f bytes call = call ≡ GetBestCertificate
DenotesFlatCall kind.TriggerTimeout f bytes (TriggerTimeout v reason now) =
    (v ≡ f.view) × (reason_number reason ≡ f.reason) × (now ≡ f.moment)
DenotesFlatCall kind.NextTimeout f bytes call = call ≡ NextTimeout f.moment
DenotesFlatCall kind.Prune f bytes call = call ≡ Prune
DenotesFlatCall _ _ _ _ = ⊥

-- a flat call asks for this: the call of its kind
abbrev pub IsAskedBy : FlatCall → List ℕ → HostCallFacts → Type 0
IsAskedBy f bytes call = (k : CallKind) × (kind_number k ≡ f.kind) × DenotesFlatCall k f bytes call

-- one of the numbers is not valid for a kind, a reason or a verdict
abbrev pub IsNoFlatCall : FlatCall → Type 0
IsNoFlatCall f = (25 ≤ f.kind) ⊎ (10 ≤ f.reason) ⊎ (2 ≤ f.success)

-- each of them is valid, also if the kind does not read it
abbrev pub HasNumbers : FlatCall → Type 0
HasNumbers f = (f.kind < 25) × (f.reason < 10) × (f.success < 2)

-- and they are those of a call that passes a certificate
abbrev pub PassesCertificate : FlatCall → Type 0
PassesCertificate f = (f.kind < 3) × HasNumbers f
