-- The events of a lifetime as plain data, and their effect on a state's facts.
use Rattle.std.specs.Prelude.{◌≡◌, ℕ, Bool, true, false, ◌==◌}
use Rattle.simplex_types.specs.Certificates.{ProposalFacts, NullificationFacts, ArtifactFacts, Accepted, Nullified}
use Rattle.simplex_types.specs.Config.{FloorFacts, Finalized}
use Rattle.simplex_types.specs.declared.reasons.TimeoutReason.{TimeoutReason}
use Rattle.simplex_types.specs.declared.types.messages.Context.{Context}
use Rattle.simplex_types.specs.declared.types.messages.Proposal.{Proposal}
use Rattle.simplex_voter.specs.Facts.{StateFacts, Elect}
use Rattle.simplex_voter.specs.Acceptance.{takes_floor, takes_proposal_certificate, takes_nullification, after_set_floor, after_add_notarization, after_add_nullification, after_add_finalization}
use Rattle.simplex_voter.specs.Certification.{takes_verdict, takes_certify_handle, after_certified, after_candidates, after_set_certify_handle}
use Rattle.simplex_voter.specs.ProposalRequests.{after_try_propose, after_proposed, after_supersede, after_release}
use Rattle.simplex_voter.specs.Replay.{TakesReplay}
use Rattle.simplex_voter.specs.StateAnswers.{after_broadcast_notarization, after_broadcast_nullification, after_broadcast_finalization, after_prune}
use Rattle.simplex_voter.specs.Timeouts.{after_trigger_timeout, after_next_timeout}
use Rattle.simplex_voter.specs.Verification.{takes_proposal, after_set_proposal, after_try_verify, after_verified, after_verification_failed}
use Rattle.simplex_voter.specs.Votes.{after_construct_notarize, after_construct_nullify, after_construct_finalize}
use Rattle.simplex_record.specs.Recovery.{as_artifact, after_replaying}

-- an event of a state, with each certificate by its facts; the last number of an event that carries a moment is that
-- moment, in milliseconds
pub data Event (K D : Type 0) : Type 0 where
  SetFloor : FloorFacts D → ℕ → Event K D
  AddNotarization : ProposalFacts D → Event K D
  AddNullification : NullificationFacts → ℕ → Event K D
  AddFinalization : ProposalFacts D → ℕ → Event K D
  Certified : ℕ → Bool → ℕ → Event K D
  ConstructNotarize : ℕ → Event K D
  ConstructNullify : ℕ → Event K D
  ConstructFinalize : ℕ → Event K D
  SetProposal : ℕ → Proposal D → Event K D
  TryPropose : Event K D
  Proposed : Context D K → D → ℕ → Event K D
  Supersede : Context D K → Event K D
  Release : ℕ → Event K D
  TryVerify : Event K D
  Verified : ℕ → Event K D
  VerificationFailed : ℕ → TimeoutReason → ℕ → Event K D
  CertifyCandidates : Event K D
  SetCertifyHandle : ℕ → (token : ℕ) → Event K D
  TriggerTimeout : ℕ → TimeoutReason → ℕ → Event K D
  NextTimeout : ℕ → Event K D
  BroadcastNotarization : ℕ → Event K D
  BroadcastNullification : ℕ → Event K D
  BroadcastFinalization : ℕ → Event K D
  Prune : Event K D
  Replay : ArtifactFacts D → Event K D

module _ {K L D : Type 0} where
  -- what an event requires of the host, apart from a floor
  abbrev pub IsEvent : StateFacts K L D → Event K D → Type 0
  IsEvent x (SetFloor floor _) = takes_floor x floor ≡ true
  IsEvent x (AddNotarization c) = takes_proposal_certificate x c ≡ true
  IsEvent x (AddNullification c _) = takes_nullification x c ≡ true
  IsEvent x (AddFinalization c _) = takes_proposal_certificate x c ≡ true
  IsEvent x (Certified v success _) = takes_verdict x v success ≡ true
  IsEvent x (SetProposal v p) = takes_proposal x v p ≡ true
  IsEvent x (SetCertifyHandle v _) = takes_certify_handle x v ≡ true
  IsEvent x (Replay e) = TakesReplay x (as_artifact {K = K} e)
  IsEvent x _ = Unit {0}

module _ {K L D : Type 0} (same : D → D → Bool) (elect : Elect L) where
  -- the facts after an event
  abbrev pub after_event : StateFacts K L D → Event K D → StateFacts K L D
  after_event x (SetFloor floor now) = after_set_floor same elect x floor now
  after_event x (AddNotarization c) = after_add_notarization same elect x c
  after_event x (AddNullification c now) = after_add_nullification elect x c now
  after_event x (AddFinalization c now) = after_add_finalization same elect x c now
  after_event x (Certified v success now) = after_certified elect x v success now
  after_event x (ConstructNotarize v) = after_construct_notarize same elect x v
  after_event x (ConstructNullify v) = after_construct_nullify x v
  after_event x (ConstructFinalize v) = after_construct_finalize elect x v
  after_event x (SetProposal v p) = after_set_proposal same elect x v p
  after_event x TryPropose = after_try_propose same elect x
  after_event x (Proposed context payload now) = after_proposed same elect x context payload now
  after_event x (Supersede context) = after_supersede same elect x context
  after_event x (Release v) = after_release x v
  after_event x TryVerify = after_try_verify same elect x
  after_event x (Verified v) = after_verified same elect x v
  after_event x (VerificationFailed v reason now) = after_verification_failed same elect x v reason now
  after_event x CertifyCandidates = after_candidates x
  after_event x (SetCertifyHandle v token) = after_set_certify_handle x v token
  after_event x (TriggerTimeout v reason now) = after_trigger_timeout x v reason now
  after_event x (NextTimeout now) = after_next_timeout x now
  after_event x (BroadcastNotarization v) = after_broadcast_notarization x v
  after_event x (BroadcastNullification v) = after_broadcast_nullification x v
  after_event x (BroadcastFinalization v) = after_broadcast_finalization x v
  after_event x Prune = after_prune x
  after_event x (Replay e) = after_replaying same elect x e

-- single events

module _ {K D : Type 0} where
  -- a nullification of the view is passed in or replayed
  abbrev pub covers_from : ℕ → Event K D → Bool
  covers_from v (AddNullification c _) = v == c.round.view
  covers_from v (Replay (Accepted (Nullified c))) = v == c.round.view
  covers_from v _ = false

  -- the view that it finalizes, or 0
  abbrev pub finalized_by_event : Event K D → ℕ
  finalized_by_event (AddFinalization c _) = c.proposal.round.view
  finalized_by_event (SetFloor (Finalized c) _) = c.proposal.round.view
  finalized_by_event _ = 0

  -- it drops the views below the retained ones
  abbrev pub is_prune : Event K D → Bool
  is_prune Prune = true
  is_prune _ = false
