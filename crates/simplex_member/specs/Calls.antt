-- The calls of a member and their replies, as plain data.
use Rattle.std.specs.Prelude.{ℕ, Bool, List, Option, Some, option_map}
use Rattle.simplex_types.specs.Certificates.{ProposalFacts, NullificationFacts, CertificateFacts, ArtifactFacts, NotarizeVote, NullifyVote, FinalizeVote, notarization_facts, nullification_facts, finalization_facts, certificate_facts}
use Rattle.simplex_types.specs.declared.types.fault.Fault.{Fault}
use Rattle.simplex_types.specs.declared.types.messages.Nullify as vote
use Rattle.simplex_types.specs.declared.types.messages.Finalize as final
use Rattle.simplex_types.specs.declared.types.messages.Notarize as first
use Rattle.simplex_types.specs.declared.types.messages.Proposal.{Proposal}
use Rattle.simplex_types.specs.declared.reasons.TimeoutReason.{TimeoutReason}
use Rattle.simplex_types.specs.declared.reasons.HandoffAbandonedReason.{HandoffAbandonedReason}
use Rattle.simplex_voter.specs.declared.voter.propose.ProposalRequest.{ProposalRequest}
use Rattle.simplex_voter.specs.declared.voter.verify.Verify.{Verify}
use Rattle.simplex_voter.specs.declared.voter.candidates.CertificateFetch.{CertificateFetch}
use Rattle.simplex_record.specs.declared.record.error.RecoverError.{RecoverError}
use Rattle.simplex_member.specs.declared.member.calls.Call.{Call}
use Rattle.simplex_member.specs.declared.member.calls.Call.TheVariants as call
use Rattle.simplex_member.specs.declared.member.calls.Reply.{Reply}
use Rattle.simplex_member.specs.declared.member.calls.Reply.TheVariants as reply

-- a call, with each certificate by its facts; the context of a request to build is the one that is open in the view;
-- moments are in milliseconds
pub data CallFacts (D : Type 0) : Type 0 where
  AddNotarization : ProposalFacts D → CallFacts D
  AddNullification : NullificationFacts → ℕ → CallFacts D
  AddFinalization : ProposalFacts D → ℕ → CallFacts D
  SetProposal : ℕ → Proposal D → CallFacts D
  TryPropose : CallFacts D
  Proposed : ℕ → D → ℕ → CallFacts D
  SupersedeProposalRequest : ℕ → CallFacts D
  PendingHandoffAbandonment : ℕ → CallFacts D
  ReleaseProposalRequest : ℕ → CallFacts D
  TryVerify : CallFacts D
  Verified : ℕ → CallFacts D
  VerificationFailed : ℕ → TimeoutReason → ℕ → CallFacts D
  ConstructNotarize : ℕ → CallFacts D
  CertifyCandidates : CallFacts D
  SetCertifyHandle : ℕ → ℕ → CallFacts D
  Certified : ℕ → Bool → ℕ → CallFacts D
  ConstructNullify : ℕ → CallFacts D
  ConstructFinalize : ℕ → CallFacts D
  BroadcastNotarization : ℕ → CallFacts D
  BroadcastNullification : ℕ → CallFacts D
  BroadcastFinalization : ℕ → CallFacts D
  GetBestCertificate : CallFacts D
  TriggerTimeout : ℕ → TimeoutReason → ℕ → CallFacts D
  NextTimeout : ℕ → CallFacts D
  Prune : CallFacts D

-- a call of a member, with each certificate by its facts
abbrev pub asked : {S D K G C : Type 0} → (C → List ℕ) → Call S D K G C → CallFacts D
asked bytes_of (call.AddNotarization c) = AddNotarization (notarization_facts bytes_of c)
asked bytes_of (call.AddNullification c now) = AddNullification (nullification_facts bytes_of c) now
asked bytes_of (call.AddFinalization c now) = AddFinalization (finalization_facts bytes_of c) now
asked bytes_of (call.SetProposal v p) = SetProposal v p
asked bytes_of call.TryPropose = TryPropose
asked bytes_of (call.Proposed v payload now) = Proposed v payload now
asked bytes_of (call.SupersedeProposalRequest v) = SupersedeProposalRequest v
asked bytes_of (call.PendingHandoffAbandonment v) = PendingHandoffAbandonment v
asked bytes_of (call.ReleaseProposalRequest v) = ReleaseProposalRequest v
asked bytes_of call.TryVerify = TryVerify
asked bytes_of (call.Verified v) = Verified v
asked bytes_of (call.VerificationFailed v reason now) = VerificationFailed v reason now
asked bytes_of (call.ConstructNotarize v) = ConstructNotarize v
asked bytes_of call.CertifyCandidates = CertifyCandidates
asked bytes_of (call.SetCertifyHandle v token) = SetCertifyHandle v token
asked bytes_of (call.Certified v success now) = Certified v success now
asked bytes_of (call.ConstructNullify v _) = ConstructNullify v
asked bytes_of (call.ConstructFinalize v) = ConstructFinalize v
asked bytes_of (call.BroadcastNotarization v) = BroadcastNotarization v
asked bytes_of (call.BroadcastNullification v) = BroadcastNullification v
asked bytes_of (call.BroadcastFinalization v) = BroadcastFinalization v
asked bytes_of call.GetBestCertificate = GetBestCertificate
asked bytes_of (call.TriggerTimeout v reason now) = TriggerTimeout v reason now
asked bytes_of (call.NextTimeout now) = NextTimeout now
asked bytes_of call.Prune = Prune

-- the content of a reply, with votes as the entries that record them; and why a restart was refused, which no reply
-- contains
pub data ReplyFacts (K D : Type 0) : Type 0 where
  Added : Bool → Option K → ReplyFacts K D
  AddedNullification : Bool → ReplyFacts K D
  Judged : Bool → Option (ProposalFacts D) → ReplyFacts K D
  Nullify : Option (Bool × ArtifactFacts D) → ReplyFacts K D
  Finalize : Option (ArtifactFacts D) → ReplyFacts K D
  Notarize : Option (ArtifactFacts D) → ReplyFacts K D
  Returned : Option (CertificateFacts D) → ReplyFacts K D
  Dropped : List ℕ → ReplyFacts K D
  Requested : Option (ProposalRequest D K) → ReplyFacts K D
  Standing : Verify D K → ReplyFacts K D
  Answered : Bool → ReplyFacts K D
  Abandoned : Option HandoffAbandonedReason → ReplyFacts K D
  Candidates : List (Proposal D) → List CertificateFetch → ReplyFacts K D
  Released : Bool → ReplyFacts K D
  Triggered : Bool → ReplyFacts K D
  TimesOut : Option (ℕ × TimeoutReason) → ReplyFacts K D
  Done : ReplyFacts K D
  Restarted : ReplyFacts K D
  NotRestarted : RecoverError → ReplyFacts K D
  Refused : Fault → ReplyFacts K D
  NotAllowed : ReplyFacts K D

module _ {S D K G C : Type 0} where
  -- a vote as the entry that records it

  -- a returned vote to nullify, with whether it was sent before
  abbrev pub reply_nullify : Option (Bool × vote.Nullify S K G C) → Option (Bool × ArtifactFacts D)
  reply_nullify vote = option_map (λ v. (v.0, NullifyVote v.1.round v.1.signer)) vote

  -- a returned vote to finalize
  abbrev pub reply_finalize : Option (final.Finalize S D K G C) → Option (ArtifactFacts D)
  reply_finalize vote = option_map (λ v. FinalizeVote v.proposal v.signer) vote

  -- a vote to notarize
  abbrev pub reply_notarize : Option (first.Notarize S D K G C) → Option (ArtifactFacts D)
  reply_notarize vote = option_map (λ v. NotarizeVote v.proposal v.signer) vote

module _ {S D K G C : Type 0} (bytes_of : C → List ℕ) where
  -- a reply, as plain data
  abbrev pub reply_facts : Reply S D K G C → ReplyFacts K D
  reply_facts reply.Unit = Done
  reply_facts (reply.Flag taken) = Answered taken
  reply_facts (reply.Added newly leader) = Added newly leader
  reply_facts (reply.AddedNullification newly) = AddedNullification newly
  reply_facts (reply.Request request) = Requested request
  reply_facts (reply.Work verify) = Standing verify
  reply_facts (reply.Candidates proposals fetches) = Candidates proposals.items fetches.items
  reply_facts (reply.Certified success notarization) = Judged success
      (option_map (notarization_facts bytes_of) notarization)
  reply_facts (reply.Notarize vote) = Notarize (reply_notarize vote)
  reply_facts (reply.Nullify vote) = Nullify (reply_nullify vote)
  reply_facts (reply.Finalize vote) = Finalize (reply_finalize vote)
  reply_facts (reply.Certificate certificate) = Returned (option_map (certificate_facts bytes_of) certificate)
  reply_facts (reply.Timeout at reason) = TimesOut (Some (at, reason))
  reply_facts (reply.Views views) = Dropped views.items
  reply_facts (reply.Released was_open) = Released was_open
  reply_facts (reply.Triggered latched) = Triggered latched
  reply_facts (reply.Abandoned reason) = Abandoned reason
  reply_facts reply.Restarted = Restarted
  reply_facts (reply.Fault fault) = Refused fault
  reply_facts reply.NotAllowed = NotAllowed
