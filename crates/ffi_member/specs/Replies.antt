-- What a flat reply represents.
use Rattle.std.specs.Prelude.{◌≡◌, Bool, length, Option, Some, None}
use Rattle.simplex_types.specs.Certificates.{ArtifactFacts, NotarizeVote, NullifyVote, FinalizeVote, CertificateFacts, Notarized, Nullified, Finalized, ProposalFacts}
use Rattle.simplex_types.specs.declared.types.messages.Context.{Context}
use Rattle.simplex_types.specs.declared.reasons.HandoffAbandonedReason.{HandoffAbandonedReason}
use Rattle.simplex_voter.specs.declared.voter.propose.ProposalRequest.{ProposalRequest}
use Rattle.simplex_voter.specs.declared.voter.propose.ProposalRequest.TheVariants.{Prepare, Propose}
use Rattle.simplex_voter.specs.declared.voter.verify.Verify.{Verify}
use Rattle.simplex_voter.specs.declared.voter.verify.Verify.TheVariants.{Ready, Resolve, Wait}
use Rattle.simplex_codec.specs.declared.digest.BytesDigest.{BytesDigest}
use Rattle.simplex_codec.specs.Digests.{bytes_in_digest}
use Rattle.ffi_scheme.specs.declared.scheme.HostKey.{HostKey}
use Rattle.simplex_member.specs.Calls.{ReplyFacts, Added, AddedNullification, Judged, Nullify, Finalize, Notarize, Returned, Dropped, Requested, Standing, Answered, Abandoned, Candidates, Released, Triggered, TimesOut, Done, Restarted, Refused, NotAllowed}
use Rattle.ffi_member.specs.declared.flat.FlatContext.{FlatContext}
use Rattle.ffi_member.specs.declared.flat.FlatReply.{FlatReply}
use Rattle.ffi_member.specs.Calls.{IsFlatProposal, flat_round}
use Rattle.ffi_member.specs.declared.kinds.CertificateKind.TheVariants as kind
use Rattle.ffi_member.specs.declared.reply_kind.ReplyKind.{ReplyKind}
use Rattle.ffi_member.specs.declared.reply_kind.ReplyKind.TheVariants as reply_kind
use Rattle.ffi_member.specs.Numbers.{abandoned_number, certificate_number, fault_status, flag_number, missing_number, member_number, reason_number, reply_number}

-- the call returned a reply of this kind
abbrev pub HasAnswer : ReplyKind → FlatReply → Type 0
HasAnswer kind f = (f.status ≡ 0) × (f.kind ≡ reply_number kind)

-- a context has these numbers and bytes
pub record IsContext (f : FlatContext) (c : Context (BytesDigest 32) HostKey) : Type 0 where
  pub round : c.round ≡ flat_round f.round
  pub parent : c.parent.0 ≡ f.parent
  pub payload : bytes_in_digest c.parent.1 ≡ f.payload

-- a request to build: 1 on a certified parent, 2 as a handoff
abbrev pub HasRequest : Option (ProposalRequest (BytesDigest 32) HostKey) → FlatReply → Type 0
HasRequest None f = f.has ≡ 0
HasRequest (Some (Propose c)) f = (f.has ≡ 1) × (f.member ≡ c.leader.index) × IsContext f.context c
HasRequest (Some (Prepare c)) f = (f.has ≡ 2) × (f.member ≡ c.leader.index) × IsContext f.context c

-- what is to be verified: 1 for a proposal, 2 if a certificate of its ancestry is missing, of this kind
abbrev pub HasWork : Verify (BytesDigest 32) HostKey → FlatReply → Type 0
HasWork Wait f = f.has ≡ 0
HasWork (Ready c q) f = (f.has ≡ 1) × (f.member ≡ c.leader.index) × IsContext f.context c × IsFlatProposal f.proposal q
HasWork (Resolve waiting view kind leader) f =
    (f.has ≡ 2) × (f.reason ≡ missing_number kind) × (f.member ≡ leader.index) × (f.waiting ≡ waiting)
    × (f.lacking ≡ view)

-- the notarization of a verdict's view, if there is one
abbrev pub HasNotarization : Option (ProposalFacts (BytesDigest 32)) → FlatReply → Type 0
HasNotarization None f = f.has ≡ 0
HasNotarization (Some c) f = (f.has ≡ 1) × IsFlatProposal f.proposal c.proposal

-- a vote to notarize, if there is one
abbrev pub HasNotarize : Option (ArtifactFacts (BytesDigest 32)) → FlatReply → Type 0
HasNotarize None f = f.has ≡ 0
HasNotarize (Some (NotarizeVote q signer)) f = (f.has ≡ 1) × (f.member ≡ signer) × IsFlatProposal f.proposal q
HasNotarize _ f = ⊥

-- a vote to nullify, and whether it was sent before
abbrev pub HasNullify : Option (Bool × ArtifactFacts (BytesDigest 32)) → FlatReply → Type 0
HasNullify None f = f.has ≡ 0
HasNullify (Some (retry, NullifyVote round signer)) f =
    (f.has ≡ 1) × (f.member ≡ signer) × (f.flag ≡ flag_number retry) × (round ≡ flat_round f.proposal.round)
HasNullify _ f = ⊥

-- a vote to finalize
abbrev pub HasFinalize : Option (ArtifactFacts (BytesDigest 32)) → FlatReply → Type 0
HasFinalize None f = f.has ≡ 0
HasFinalize (Some (FinalizeVote q signer)) f = (f.has ≡ 1) × (f.member ≡ signer) × IsFlatProposal f.proposal q
HasFinalize _ f = ⊥

-- a certificate, by the number of its kind
abbrev pub HasCertificate : Option (CertificateFacts (BytesDigest 32)) → FlatReply → Type 0
HasCertificate None f = f.has ≡ 0
HasCertificate (Some (Notarized c)) f =
    (f.has ≡ certificate_number kind.Notarization) × IsFlatProposal f.proposal c.proposal
HasCertificate (Some (Nullified c)) f =
    (f.has ≡ certificate_number kind.Nullification) × (c.round ≡ flat_round f.proposal.round)
HasCertificate (Some (Finalized c)) f =
    (f.has ≡ certificate_number kind.Finalization) × IsFlatProposal f.proposal c.proposal

-- why a handoff must be abandoned, if it must
abbrev pub HasReason : Option HandoffAbandonedReason → FlatReply → Type 0
HasReason None f = f.has ≡ 0
HasReason (Some reason) f = (f.has ≡ 1) × (f.reason ≡ abandoned_number reason)

-- the flat form of a reply, without what has no fixed size
abbrev pub RepresentsReply : FlatReply → ReplyFacts HostKey (BytesDigest 32) → Type 0
RepresentsReply f Done = HasAnswer reply_kind.Unit f
RepresentsReply f (Answered taken) = HasAnswer reply_kind.Flag f × (f.flag ≡ flag_number taken)
RepresentsReply f (Added newly leader) =
    HasAnswer reply_kind.Added f × (f.flag ≡ flag_number newly) × (f.member ≡ member_number leader)
RepresentsReply f (AddedNullification newly) = HasAnswer reply_kind.AddedNullification f × (f.flag ≡ flag_number newly)
RepresentsReply f (Requested request) = HasAnswer reply_kind.Request f × HasRequest request f
RepresentsReply f (Standing work) = HasAnswer reply_kind.Work f × HasWork work f
RepresentsReply f (Candidates proposals fetches) =
    HasAnswer reply_kind.Candidates f × (f.count ≡ length proposals) × (f.fetches ≡ length fetches)
RepresentsReply f (Judged success notarization) =
    HasAnswer reply_kind.Certified f × (f.flag ≡ flag_number success) × HasNotarization notarization f
RepresentsReply f (Notarize vote) = HasAnswer reply_kind.Notarize f × HasNotarize vote f
RepresentsReply f (Nullify vote) = HasAnswer reply_kind.Nullify f × HasNullify vote f
RepresentsReply f (Finalize vote) = HasAnswer reply_kind.Finalize f × HasFinalize vote f
RepresentsReply f (Returned certificate) = HasAnswer reply_kind.Certificate f × HasCertificate certificate f
RepresentsReply f (TimesOut (Some (moment, reason))) =
    HasAnswer reply_kind.Timeout f × (f.moment ≡ moment) × (f.reason ≡ reason_number reason)
RepresentsReply f (Dropped views) = HasAnswer reply_kind.Views f × (f.count ≡ length views)
RepresentsReply f (Released was_open) = HasAnswer reply_kind.Released f × (f.flag ≡ flag_number was_open)
RepresentsReply f (Triggered latched) = HasAnswer reply_kind.Triggered f × (f.flag ≡ flag_number latched)
RepresentsReply f (Abandoned reason) = HasAnswer reply_kind.Abandoned f × HasReason reason f
RepresentsReply f Restarted = HasAnswer reply_kind.Restarted f
RepresentsReply f (Refused fault) = f.status ≡ fault_status fault
RepresentsReply f NotAllowed = f.status ≡ 5
RepresentsReply _ _ = ⊥
