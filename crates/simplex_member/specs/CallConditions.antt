-- What a call requires of the host, why it is refused, and where it may run out of memory.
use Rattle.std.specs.Prelude.{Bool, true, false, ◌&&◌, Option, is_some}
use Rattle.simplex_types.specs.declared.types.fault.Fault.{Fault}
use Rattle.simplex_voter.specs.Facts.{StateFacts}
use Rattle.simplex_voter.specs.Refusals.{plain_refusal, proposal_refusal}
use Rattle.simplex_voter.specs.Acceptance.{takes_proposal_certificate, takes_nullification, notarization_refusal, nullification_refusal, finalization_refusal}
use Rattle.simplex_voter.specs.Certification.{takes_verdict, takes_certify_handle, certified_refusal}
use Rattle.simplex_voter.specs.StateAnswers.{best_certificate, broadcast_notarization_answer, broadcast_nullification_answer, broadcast_finalization_answer}
use Rattle.simplex_voter.specs.Timeouts.{has_timeout, next_timeout_refusal}
use Rattle.simplex_voter.specs.Verification.{takes_proposal}
use Rattle.simplex_member.specs.Calls.{CallFacts, AddNotarization, AddNullification, AddFinalization, SetProposal, TryPropose, Proposed, SupersedeProposalRequest, PendingHandoffAbandonment, TryVerify, Verified, VerificationFailed, ConstructNotarize, CertifyCandidates, SetCertifyHandle, Certified, ConstructNullify, ConstructFinalize, BroadcastNotarization, BroadcastNullification, BroadcastFinalization, GetBestCertificate, NextTimeout, Prune}
use Rattle.simplex_member.specs.OutstandingWork.{OutstandingWork, context_at, is_verifying, is_offered}

module _ {K L D : Type 0} where
  -- what a call requires of the state alone: a certificate or a proposal of this epoch and of a retained view, a token
  -- without a verdict, a verdict that may be given, or a timeout
  abbrev pub is_state_ready : StateFacts K L D → CallFacts D → Bool
  is_state_ready x (AddNotarization c) = takes_proposal_certificate x c
  is_state_ready x (AddNullification c _) = takes_nullification x c
  is_state_ready x (AddFinalization c _) = takes_proposal_certificate x c
  is_state_ready x (SetProposal v p) = takes_proposal x v p
  is_state_ready x (SetCertifyHandle v _) = takes_certify_handle x v
  is_state_ready x (Certified v success _) = takes_verdict x v success
  is_state_ready x (NextTimeout _) = has_timeout x
  is_state_ready x _ = true

  -- what a call requires of the host: an open request to build, a proposal that is being verified, an offer that has no
  -- verdict; and of the state
  abbrev pub is_allowed : StateFacts K L D → OutstandingWork K D → CallFacts D → Bool
  is_allowed x o (Proposed v _ _) = is_some (context_at o v)
  is_allowed x o (SupersedeProposalRequest v) = is_some (context_at o v)
  is_allowed x o (PendingHandoffAbandonment v) = is_some (context_at o v)
  is_allowed x o (Verified v) = is_verifying o v
  is_allowed x o (VerificationFailed v _ _) = is_verifying o v
  is_allowed x o (SetCertifyHandle v _) = is_offered o v && takes_certify_handle x v
  is_allowed x o call = is_state_ready x call

  -- why it is refused, other than out of memory
  abbrev pub fault_of : StateFacts K L D → CallFacts D → Option Fault
  fault_of x (AddNotarization c) = notarization_refusal x c
  fault_of x (AddNullification c now) = nullification_refusal x c now
  fault_of x (AddFinalization c now) = finalization_refusal x c.proposal now
  fault_of x (SetProposal v p) = proposal_refusal x p
  fault_of x (Certified v success now) = certified_refusal x v success now
  fault_of x (NextTimeout now) = next_timeout_refusal x now
  fault_of x _ = plain_refusal x

  -- the call needs memory before the state is called: in the record, for a copy of what is passed in, or for what the
  -- reply opens; or its reply is only a copy. Without that memory nothing has changed
  abbrev pub needs_room : StateFacts K L D → CallFacts D → Bool
  needs_room x (AddNotarization _) = true
  needs_room x (AddNullification _ _) = true
  needs_room x (AddFinalization _ _) = true
  needs_room x TryPropose = true
  needs_room x TryVerify = true
  needs_room x (ConstructNotarize _) = true
  needs_room x (Certified _ _ _) = true
  needs_room x (ConstructNullify _) = true
  needs_room x (ConstructFinalize _) = true
  needs_room x GetBestCertificate = is_some (best_certificate x)
  needs_room x _ = false

  -- the state may run out of memory in the middle of the call, or there may be none for a copy of its vote, of what it
  -- offers or of what it returns: then it is lost
  abbrev pub may_fall : StateFacts K L D → CallFacts D → Bool
  may_fall x (AddNotarization _) = true
  may_fall x (AddNullification _ _) = true
  may_fall x (AddFinalization _ _) = true
  may_fall x (SetProposal _ _) = true
  may_fall x (ConstructNotarize _) = true
  may_fall x CertifyCandidates = true
  may_fall x (Certified _ _ _) = true
  may_fall x (ConstructNullify _) = true
  may_fall x (ConstructFinalize _) = true
  may_fall x (BroadcastNotarization v) = is_some (broadcast_notarization_answer x v)
  may_fall x (BroadcastNullification v) = is_some (broadcast_nullification_answer x v)
  may_fall x (BroadcastFinalization v) = is_some (broadcast_finalization_answer x v)
  may_fall x Prune = true
  may_fall x _ = false
