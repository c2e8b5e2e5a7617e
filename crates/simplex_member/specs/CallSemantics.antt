-- The reply to a call that is allowed and not refused, and its effect on the state, on the open requests and on the
-- record.
use Rattle.std.specs.Prelude.{ℕ, Bool, false, if◌then◌else◌, List, [], ◌∷◌, Option, Some, is_some, None, option_map, option_and_then}
use Rattle.std.specs.Option.{option_map_or}
use Rattle.simplex_types.specs.Certificates.{Notarized, Nullified, Finalized, ArtifactFacts, NotarizeVote, NullifyVote, FinalizeVote, Verdict, Accepted}
use Rattle.simplex_voter.specs.Facts.{StateFacts, Elect, round_number}
use Rattle.simplex_voter.specs.Acceptance.{notarization_added, nullification_added, finalization_added, after_add_notarization, after_add_nullification, after_add_finalization}
use Rattle.simplex_voter.specs.Certification.{candidates_answer, after_candidates, after_set_certify_handle, is_first_verdict, certified_answer, after_certified}
use Rattle.simplex_voter.specs.ProposalRequests.{propose_answer, after_try_propose, proposed_answer, after_proposed, supersede_answer, after_supersede, abandonment_answer, after_release}
use Rattle.simplex_voter.specs.StateAnswers.{broadcast_notarization_answer, after_broadcast_notarization, broadcast_nullification_answer, after_broadcast_nullification, broadcast_finalization_answer, after_broadcast_finalization, best_certificate, prune_answer, after_prune}
use Rattle.simplex_voter.specs.Timeouts.{trigger_answer, after_trigger_timeout, next_timeout_answer, after_next_timeout}
use Rattle.simplex_voter.specs.Verification.{set_proposal_answer, after_set_proposal, verify_answer, after_try_verify, verified_answer, after_verified, after_verification_failed}
use Rattle.simplex_voter.specs.Votes.{notarize_answer, after_construct_notarize, nullify_answer, after_construct_nullify, finalize_answer, after_construct_finalize}
use Rattle.simplex_member.specs.Calls.{CallFacts, AddNotarization, AddNullification, AddFinalization, SetProposal, TryPropose, Proposed, SupersedeProposalRequest, PendingHandoffAbandonment, ReleaseProposalRequest, TryVerify, Verified, VerificationFailed, ConstructNotarize, CertifyCandidates, SetCertifyHandle, Certified, ConstructNullify, ConstructFinalize, BroadcastNotarization, BroadcastNullification, BroadcastFinalization, GetBestCertificate, TriggerTimeout, NextTimeout, Prune, ReplyFacts, Added, AddedNullification, Judged, Nullify, Finalize, Notarize, Returned, Dropped, Requested, Standing, Answered, Abandoned, Candidates, Released, Triggered, TimesOut, Done}
use Rattle.simplex_member.specs.OutstandingWork.{OutstandingWork, context_at, without_context, with_open_request, without_verification, with_verification, without_offer, with_offers}

module _ {K L D : Type 0} where
  -- the returned vote to nullify a view, with whether it is a repeat
  abbrev pub nullify_vote : StateFacts K L D → ℕ → Option (Bool × ArtifactFacts D)
  nullify_vote x v =
      option_and_then
      (λ m. option_map
      (λ retry. (retry, NullifyVote (round_number x v) m))
      (nullify_answer x v))
      x.me

module _ {K L D : Type 0} (elect : Elect L) where
  -- the returned vote to finalize a view
  abbrev pub finalize_vote : StateFacts K L D → ℕ → Option (ArtifactFacts D)
  finalize_vote x v =
      option_and_then
      (λ m. option_map (λ p. FinalizeVote p m) (finalize_answer elect x v))
      x.me

module _ {K L D : Type 0} (same : D → D → Bool) (elect : Elect L) where
  -- the returned vote to notarize a view
  abbrev pub notarize_vote : StateFacts K L D → ℕ → Option (ArtifactFacts D)
  notarize_vote x v =
      option_and_then
      (λ m. option_map (λ p. NotarizeVote p m) (notarize_answer same elect x v))
      x.me

-- an entry, if it is new
abbrev pub if_new : {D : Type 0} → Bool → ArtifactFacts D → List (ArtifactFacts D)
if_new is_new e = if is_new then e ∷ [] else []

-- a vote that is no repeat
abbrev pub unrepeated_vote : {D : Type 0} → Option (Bool × ArtifactFacts D) → List (ArtifactFacts D)
unrepeated_vote None = []
unrepeated_vote (Some (retry, vote)) = if retry then [] else vote ∷ []

-- the entry that records a vote, if there is one
abbrev pub vote_entry : {D : Type 0} → Option (ArtifactFacts D) → List (ArtifactFacts D)
vote_entry None = []
vote_entry (Some vote) = vote ∷ []

module _ {K L D : Type 0} (same : D → D → Bool) (elect : Elect L) where
  -- the reply to a call
  abbrev pub answer : StateFacts K L D → OutstandingWork K D → CallFacts D → ReplyFacts K D
  answer x o (AddNotarization c) = Added (notarization_added same elect x c).0 (notarization_added same elect x c).1
  answer x o (AddNullification c _) = AddedNullification (nullification_added x c)
  answer x o (AddFinalization c _) = Added (finalization_added same elect x c).0 (finalization_added same elect x c).1
  answer x o (SetProposal v p) = Answered (set_proposal_answer x v)
  answer x o TryPropose = Requested (propose_answer same elect x)
  answer x o (Proposed v payload _) =
      Answered (option_map_or (λ context. proposed_answer same elect x context payload) (context_at o v) false)
  answer x o (SupersedeProposalRequest v) =
      Answered (option_map_or (λ context. supersede_answer same elect x context) (context_at o v) false)
  answer x o (PendingHandoffAbandonment v) =
      Abandoned (option_map_or (λ context. abandonment_answer same elect x context) (context_at o v) None)
  answer x o (ReleaseProposalRequest v) = Released (is_some (context_at o v))
  answer x o TryVerify = Standing (verify_answer same elect x)
  answer x o (Verified v) = Answered (verified_answer same elect x v)
  answer x o (VerificationFailed _ _ _) = Done
  answer x o (ConstructNotarize v) = Notarize (notarize_vote same elect x v)
  answer x o CertifyCandidates = Candidates (candidates_answer same elect x).0 (candidates_answer same elect x).1
  answer x o (SetCertifyHandle _ _) = Done
  answer x o (Certified v success _) = Judged success (certified_answer x v)
  answer x o (ConstructNullify v) = Nullify (nullify_vote x v)
  answer x o (ConstructFinalize v) = Finalize (finalize_vote elect x v)
  answer x o (BroadcastNotarization v) = Returned (option_map Notarized (broadcast_notarization_answer x v))
  answer x o (BroadcastNullification v) = Returned (option_map Nullified (broadcast_nullification_answer x v))
  answer x o (BroadcastFinalization v) = Returned (option_map Finalized (broadcast_finalization_answer x v))
  answer x o GetBestCertificate = Returned (best_certificate x)
  answer x o (TriggerTimeout v reason _) = Triggered (trigger_answer x v reason)
  answer x o (NextTimeout now) = TimesOut (next_timeout_answer x now)
  answer x o Prune = Dropped (prune_answer x)

module _ {K L D : Type 0} (same : D → D → Bool) (elect : Elect L) where
  -- the state after it
  abbrev pub after_call : StateFacts K L D → OutstandingWork K D → CallFacts D → StateFacts K L D
  after_call x o (AddNotarization c) = after_add_notarization same elect x c
  after_call x o (AddNullification c now) = after_add_nullification elect x c now
  after_call x o (AddFinalization c now) = after_add_finalization same elect x c now
  after_call x o (SetProposal v p) = after_set_proposal same elect x v p
  after_call x o TryPropose = after_try_propose same elect x
  after_call x o (Proposed v payload now) =
      option_map_or (λ context. after_proposed same elect x context payload now) (context_at o v) x
  after_call x o (SupersedeProposalRequest v) =
      option_map_or (λ context. after_supersede same elect x context) (context_at o v) x
  after_call x o (PendingHandoffAbandonment _) = x
  after_call x o (ReleaseProposalRequest v) = after_release x v
  after_call x o TryVerify = after_try_verify same elect x
  after_call x o (Verified v) = after_verified same elect x v
  after_call x o (VerificationFailed v reason now) = after_verification_failed same elect x v reason now
  after_call x o (ConstructNotarize v) = after_construct_notarize same elect x v
  after_call x o CertifyCandidates = after_candidates x
  after_call x o (SetCertifyHandle v token) = after_set_certify_handle x v token
  after_call x o (Certified v success now) = after_certified elect x v success now
  after_call x o (ConstructNullify v) = after_construct_nullify x v
  after_call x o (ConstructFinalize v) = after_construct_finalize elect x v
  after_call x o (BroadcastNotarization v) = after_broadcast_notarization x v
  after_call x o (BroadcastNullification v) = after_broadcast_nullification x v
  after_call x o (BroadcastFinalization v) = after_broadcast_finalization x v
  after_call x o GetBestCertificate = x
  after_call x o (TriggerTimeout v reason now) = after_trigger_timeout x v reason now
  after_call x o (NextTimeout now) = after_next_timeout x now
  after_call x o Prune = after_prune x

  -- the open requests after it: a request opens a view's context, which is closed once a payload was built in it, or
  -- the request was superseded or released; a proposal to verify is open until its answer, and an offer until its
  -- verdict
  abbrev pub outstanding_work_after : StateFacts K L D → OutstandingWork K D → CallFacts D → OutstandingWork K D
  outstanding_work_after x o TryPropose = with_open_request o (propose_answer same elect x)
  outstanding_work_after x o (Proposed v _ _) = without_context o v
  outstanding_work_after x o (SupersedeProposalRequest v) =
      if option_map_or (λ context. supersede_answer same elect x context) (context_at o v) false
      then without_context o v else o
  outstanding_work_after x o (ReleaseProposalRequest v) = without_context o v
  outstanding_work_after x o TryVerify = with_verification o (verify_answer same elect x)
  outstanding_work_after x o (Verified v) = without_verification o v
  outstanding_work_after x o (VerificationFailed v _ _) = without_verification o v
  outstanding_work_after x o CertifyCandidates = with_offers o (candidates_answer same elect x).0
  outstanding_work_after x o (Certified v _ _) = without_offer o v
  outstanding_work_after x o _ = o

  -- the new entries of the record: certificates that are newly added, a view's first verdict, votes that are no repeat
  abbrev pub recorded_by : StateFacts K L D → CallFacts D → List (ArtifactFacts D)
  recorded_by x (AddNotarization c) = if_new (notarization_added same elect x c).0 (Accepted (Notarized c))
  recorded_by x (AddNullification c _) = if_new (nullification_added x c) (Accepted (Nullified c))
  recorded_by x (AddFinalization c _) = if_new (finalization_added same elect x c).0 (Accepted (Finalized c))
  recorded_by x (ConstructNotarize v) = vote_entry (notarize_vote same elect x v)
  recorded_by x (Certified v success _) = if_new (is_first_verdict x v) (Verdict (round_number x v) success)
  recorded_by x (ConstructNullify v) = unrepeated_vote (nullify_vote x v)
  recorded_by x (ConstructFinalize v) = vote_entry (finalize_vote elect x v)
  recorded_by x _ = []
