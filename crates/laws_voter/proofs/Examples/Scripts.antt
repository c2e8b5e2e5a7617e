-- Scripts of calls: the reply to each, by the definitions, in a network of four members.
use Rattle.std.specs.Prelude.{ℕ, Bool, true, false, ◌%◌, List, [], ◌∷◌, Option, Some, None, nat_eq, option_map, if◌then◌else◌, fold}
use Rattle.std.specs.Option.{option_map_or}
use Rattle.simplex_types.specs.Terms.{term_index}
use Rattle.simplex_types.specs.Certificates.{ProposalFacts, NullificationFacts, CertificateFacts, Notarized, Nullified, Finalized}
use Rattle.simplex_types.specs.declared.types.fault.Fault.{Fault}
use Rattle.simplex_types.specs.declared.types.window.Terms.{Terms}
use Rattle.simplex_types.specs.declared.types.messages.Proposal.{Proposal}
use Rattle.simplex_types.specs.declared.types.messages.Context.{Context}
use Rattle.simplex_types.specs.declared.types.messages.Artifact.{Artifact}
use Rattle.simplex_types.specs.declared.types.messages.Artifact.TheVariants as artifact
use Rattle.simplex_types.specs.declared.reasons.TimeoutReason.{TimeoutReason}
use Rattle.simplex_types.specs.declared.reasons.HandoffAbandonedReason.{HandoffAbandonedReason}
use Rattle.simplex_voter.specs.declared.voter.candidates.CertificateFetch.{CertificateFetch}
use Rattle.simplex_voter.specs.Facts.{Settings, StateFacts, Elect, new_facts}
use Rattle.simplex_voter.specs.Gaps.{first_unnullified_view}
use Rattle.simplex_voter.specs.Windows.{admits_vote, min_active, is_admitted, in_issuance_window}
use Rattle.simplex_voter.specs.Payloads.{explicit_ancestry_payload, is_handoff_parent, is_voted_ancestor, can_chain_on, optimistic_ancestry_payload}
use Rattle.simplex_voter.specs.Parents.{has_valid_parent_span, ancestry_payload_for_child, parent_payload_for, find_parent, captured_parent_valid, verification_matches}
use Rattle.simplex_voter.specs.Rules.{may_nullify, has_conflicting_nullify, required_certification_parent, may_finalize, may_notarize}
use Rattle.simplex_voter.specs.Refusals.{plain_refusal, proposal_refusal, takes_round}
use Rattle.simplex_voter.specs.Timeouts.{after_trigger_timeout, next_timeout_answer, after_next_timeout, next_timeout_refusal, has_timeout}
use Rattle.simplex_voter.specs.Certification.{candidates_answer, after_candidates, after_set_certify_handle, takes_certify_handle, certified_answer, after_certified, certified_refusal, takes_verdict}
use Rattle.simplex_types.specs.Config.{Finalized as FinalizedFloor}
use Rattle.simplex_voter.specs.Acceptance as accept
use Rattle.simplex_voter.specs.Votes.{nullify_answer, after_construct_nullify, finalize_answer, after_construct_finalize, notarize_answer, after_construct_notarize}
use Rattle.simplex_voter.specs.declared.voter.propose.ProposalRequest.{ProposalRequest}
use Rattle.simplex_voter.specs.declared.voter.verify.Verify.{Verify}
use Rattle.simplex_voter.specs.ProposalRequests.{propose_answer, after_try_propose, proposed_answer, after_proposed, supersede_answer, after_supersede, abandonment_answer, after_release, parent_certified, voted_nullify as abandons}
use Rattle.simplex_voter.specs.Verification.{takes_proposal, set_proposal_answer, after_set_proposal, standing, verify_answer, after_try_verify, verified_answer, after_verified, after_verification_failed}
use Rattle.simplex_voter.specs.StateAnswers.{best_certificate, broadcast_notarization_answer, after_broadcast_notarization, broadcast_nullification_answer, after_broadcast_nullification, broadcast_finalization_answer, after_broadcast_finalization, prune_answer, after_prune, elapsed_since_start, elapsed_since_entry, leader_of, forwardable_of}
use Rattle.simplex_voter.specs.Replay.{artifact_round, replay_refusal, after_replayed}

-- keys are the members' indices, payloads numbers, and an elector is the length of its terms
abbrev pub State : Type 0
State = StateFacts ℕ ℕ ℕ

abbrev pub Entry : Type 0
Entry = Artifact ℕ ℕ ℕ ℕ ℕ

-- the members lead the terms round-robin
abbrev pub in_turn : Elect ℕ
in_turn length round seed = term_index length round.view % 4

abbrev pub proposal : ℕ → ℕ → ℕ → Proposal ℕ
proposal v p d = record { round = record { epoch = 1; view = v }; parent = p; payload = d }

abbrev pub context : ℕ → ℕ → ℕ → ℕ → Context ℕ ℕ
context v leader p d = record { round = record { epoch = 1; view = v }; leader = leader; parent = (p, d) }

pub data Call : Type 0 where
  AddNotarization : (view parent payload : ℕ) → Call
  AddNullification : (view now : ℕ) → Call
  AddFinalization : (view parent payload now : ℕ) → Call
  SetProposal : (view parent payload : ℕ) → Call
  TryPropose : Call
  Proposed : Context ℕ ℕ → (payload now : ℕ) → Call
  Supersede : Context ℕ ℕ → Call
  Abandonment : Context ℕ ℕ → Call
  Release : ℕ → Call
  TryVerify : Call
  Verified : ℕ → Call
  Rejected : ℕ → TimeoutReason → ℕ → Call
  Candidates : Call
  SetCertifyHandle : (view token : ℕ) → Call
  Certified : ℕ → Bool → ℕ → Call
  Notarize : ℕ → Call
  Nullify : ℕ → Call
  Finalize : ℕ → Call
  BroadcastNotarization : ℕ → Call
  BroadcastNullification : ℕ → Call
  BroadcastFinalization : ℕ → Call
  Best : Call
  Trigger : ℕ → TimeoutReason → ℕ → Call
  NextTimeout : ℕ → Call
  Prune : Call
  View : Call
  Replayed : Entry → Call
  Elapsed : (view now : ℕ) → Call
  Leader : ℕ → Call
  Forwardable : ℕ → Call
  ParentCertified : (view payload : ℕ) → Call
  VotedNullify : ℕ → Call
  AdmitsVote : ℕ → Call
  -- a new state takes this record, in view order
  Restart : ℕ → List Entry → Call

pub data Reply : Type 0 where
  Done : Reply
  Flag : Bool → Reply
  Added : Bool → Option ℕ → Reply
  Asked : Option (ProposalRequest ℕ ℕ) → Reply
  Abandoned : Option HandoffAbandonedReason → Reply
  Work : Verify ℕ ℕ → Reply
  Offered : List (Proposal ℕ) → List CertificateFetch → Reply
  Judged : Option (Proposal ℕ) → Reply
  Vote : Option (Proposal ℕ) → Reply
  NullifyVote : Option Bool → Reply
  Certificate : Option (CertificateFacts ℕ) → Reply
  Timeout : Option (ℕ × TimeoutReason) → Reply
  Views : List ℕ → Reply
  Now : (current finalized low : ℕ) → Reply
  -- since the start, and since the entry
  Since : (start entry : Option ℕ) → Reply
  Member : Option ℕ → Reply
  Refused : Fault → Reply
  NotAllowed : Reply

-- certificates have no bytes here
abbrev pub certificate : ℕ → ℕ → ℕ → ProposalFacts ℕ
certificate v p d = record { proposal = proposal v p d; bytes = [] }

abbrev pub nullification : ℕ → NullificationFacts
nullification v = record { round = record { epoch = 1; view = v }; bytes = [] }

abbrev pub added : Bool × Option ℕ → Reply
added answer = Added answer.0 answer.1

-- the reply if the call is allowed and not refused
abbrev pub guarded : Bool → Option Fault → Reply → Reply
guarded allowed refusal reply = if allowed then option_map_or Refused refusal reply else NotAllowed

abbrev pub same : ℕ → ℕ → Bool
same = nat_eq

-- the reply to a call
abbrev pub reply_to : State → Call → Reply
reply_to x (AddNotarization v p d) =
    let c = certificate v p d in
    guarded (accept.takes_proposal_certificate x c) (accept.notarization_refusal x c)
    (added (accept.notarization_added same in_turn x c))
reply_to x (AddNullification v now) =
    let c = nullification v in
    guarded (accept.takes_nullification x c) (accept.nullification_refusal x c now)
    (Flag (accept.nullification_added x c))
reply_to x (AddFinalization v p d now) =
    let c = certificate v p d in
    guarded (accept.takes_proposal_certificate x c) (accept.finalization_refusal x (proposal v p d) now)
    (added (accept.finalization_added same in_turn x c))
reply_to x (SetProposal v p d) =
    guarded (takes_proposal x v (proposal v p d)) (proposal_refusal x (proposal v p d)) (Flag (set_proposal_answer x v))
reply_to x TryPropose = Asked (propose_answer same in_turn x)
reply_to x (Proposed c d now) = Flag (proposed_answer same in_turn x c d)
reply_to x (Supersede c) = Flag (supersede_answer same in_turn x c)
reply_to x (Abandonment c) = Abandoned (abandonment_answer same in_turn x c)
reply_to x (Release v) = Done
reply_to x TryVerify = Work (verify_answer same in_turn x)
reply_to x (Verified v) = Flag (verified_answer same in_turn x v)
reply_to x (Rejected v reason now) = Done
reply_to x Candidates = let answer = candidates_answer same in_turn x in Offered answer.0 answer.1
reply_to x (SetCertifyHandle v token) = guarded (takes_certify_handle x v) (plain_refusal x) Done
reply_to x (Certified v success now) =
    guarded (takes_verdict x v success) (certified_refusal x v success now)
    (Judged (option_map (λ c. c.proposal) (certified_answer x v)))
reply_to x (Notarize v) = Vote (notarize_answer same in_turn x v)
reply_to x (Nullify v) = NullifyVote (nullify_answer x v)
reply_to x (Finalize v) = Vote (finalize_answer in_turn x v)
reply_to x (BroadcastNotarization v) = Certificate (option_map Notarized (broadcast_notarization_answer x v))
reply_to x (BroadcastNullification v) = Certificate (option_map Nullified (broadcast_nullification_answer x v))
reply_to x (BroadcastFinalization v) = Certificate (option_map Finalized (broadcast_finalization_answer x v))
reply_to x Best = Certificate (best_certificate x)
reply_to x (Trigger v reason now) = Done
reply_to x (NextTimeout now) = guarded (has_timeout x) (next_timeout_refusal x now)
    (Timeout (next_timeout_answer x now))
reply_to x Prune = Views (prune_answer x)
reply_to x (Replayed entry) = guarded (takes_round x (artifact_round entry)) (replay_refusal x entry) Done
reply_to x View = Now x.current x.finalized (min_active x)
reply_to x (Elapsed v now) = Since (elapsed_since_start x v now) (elapsed_since_entry x v now)
reply_to x (Leader v) = Member (leader_of x v)
reply_to x (Forwardable v) = Vote (forwardable_of x v)
reply_to x (ParentCertified v d) = Flag (parent_certified same x (v, d))
reply_to x (VotedNullify v) = Flag (abandons x v)
reply_to x (AdmitsVote v) = Flag (admits_vote x v)
reply_to x (Restart now entries) = Done

-- a recovery takes an entry: votes are replayed, a certificate is added first, and a verdict is certified after
abbrev pub entry_taken : ℕ → State → Entry → State
entry_taken now x (artifact.Notarization n) =
    after_replayed same in_turn (accept.after_add_notarization same in_turn x
    (record { proposal = n.proposal; bytes = [] })) (artifact.Notarization n)
entry_taken now x (artifact.Nullification n) =
    after_replayed same in_turn (accept.after_add_nullification in_turn x (record { round = n.round; bytes = [] }) now)
    (artifact.Nullification n)
entry_taken now x (artifact.Finalization f) =
    after_replayed same in_turn (accept.after_add_finalization same in_turn x
    (record { proposal = f.proposal; bytes = [] }) now) (artifact.Finalization f)
entry_taken now x (artifact.Certification round success) =
    let entry : Entry = artifact.Certification round success in
    after_certified in_turn (after_replayed same in_turn x entry) round.view success now
entry_taken now x vote = after_replayed same in_turn x vote

-- nothing is known but how the member was set up
abbrev pub fresh : State → State
fresh x = new_facts x.settings x.me x.members x.elector x.terms x.elects_early

-- a recovery of a record over genesis of payload 0
abbrev pub recovered : State → ℕ → List Entry → State
recovered x now entries = fold (entry_taken now) (accept.after_set_genesis in_turn (fresh x) 0 now) entries

-- the state after a call that is allowed and not refused
abbrev pub after_call : State → Call → State
after_call x (AddNotarization v p d) = accept.after_add_notarization same in_turn x (certificate v p d)
after_call x (AddNullification v now) = accept.after_add_nullification in_turn x (nullification v) now
after_call x (AddFinalization v p d now) = accept.after_add_finalization same in_turn x (certificate v p d) now
after_call x (SetProposal v p d) = after_set_proposal same in_turn x v (proposal v p d)
after_call x TryPropose = after_try_propose same in_turn x
after_call x (Proposed c d now) = after_proposed same in_turn x c d now
after_call x (Supersede c) = after_supersede same in_turn x c
after_call x (Abandonment c) = x
after_call x (Release v) = after_release x v
after_call x TryVerify = after_try_verify same in_turn x
after_call x (Verified v) = after_verified same in_turn x v
after_call x (Rejected v reason now) = after_verification_failed same in_turn x v reason now
after_call x Candidates = after_candidates x
after_call x (SetCertifyHandle v token) = after_set_certify_handle x v token
after_call x (Certified v success now) = after_certified in_turn x v success now
after_call x (Notarize v) = after_construct_notarize same in_turn x v
after_call x (Nullify v) = after_construct_nullify x v
after_call x (Finalize v) = after_construct_finalize in_turn x v
after_call x (BroadcastNotarization v) = after_broadcast_notarization x v
after_call x (BroadcastNullification v) = after_broadcast_nullification x v
after_call x (BroadcastFinalization v) = after_broadcast_finalization x v
after_call x Best = x
after_call x (Trigger v reason now) = after_trigger_timeout x v reason now
after_call x (NextTimeout now) = after_next_timeout x now
after_call x Prune = after_prune x
after_call x (Replayed entry) = after_replayed same in_turn x entry
after_call x View = x
after_call x (Elapsed v now) = x
after_call x (Leader v) = x
after_call x (Forwardable v) = x
after_call x (ParentCertified v d) = x
after_call x (VotedNullify v) = x
after_call x (AdmitsVote v) = x
after_call x (Restart now entries) = recovered x now entries

abbrev pub was_taken : Reply → Bool
was_taken (Refused _) = false
was_taken NotAllowed = false
was_taken _ = true

-- the replies to a list of calls
unfoldable pub replies_of : State → List Call → List Reply
unfolding first_unnullified_view is_admitted in_issuance_window explicit_ancestry_payload is_handoff_parent
    is_voted_ancestor can_chain_on optimistic_ancestry_payload has_valid_parent_span ancestry_payload_for_child
    parent_payload_for find_parent captured_parent_valid verification_matches may_nullify has_conflicting_nullify
    required_certification_parent may_finalize may_notarize propose_answer proposed_answer standing
replies_of x [] = []
replies_of x (call ∷ calls) =
    let reply = reply_to x call in
    reply ∷ replies_of (if was_taken reply then after_call x call else x) calls

-- a member of four, with this key, terms and settings, that began at genesis of payload 0 at this moment
abbrev pub member : Option ℕ → Terms → Settings → ℕ → State
member me terms settings now =
    recovered (new_facts settings me (0 ∷ 1 ∷ 2 ∷ 3 ∷ []) terms.term_length terms true) now []

abbrev pub usual : Settings
usual = record {
  epoch = 1;
  view_retention = 10;
  leader_timeout = 1000;
  certification_timeout = 2000;
  timeout_retry = 500;
  skip_budget = 4;
}

-- the usual settings, without a stall timeout
abbrev pub voter : ℕ → ℕ → ℕ → State
voter me length optimistic =
    member (Some me) (record { term_length = length; optimistic_views = optimistic; stall_timeout = None }) usual 0

-- the same without a key
abbrev pub keyless : ℕ → ℕ → State
keyless length optimistic =
    member None (record { term_length = length; optimistic_views = optimistic; stall_timeout = None }) usual 0

abbrev pub fetch : ℕ → ℕ → CertificateFetch
fetch p v = record { proposal = p; view = v }

-- a member that begins above a finalization
abbrev pub above : ℕ → ℕ → ℕ → ℕ → State
above me v p d = accept.after_set_floor same in_turn (fresh (voter me 1 0)) (FinalizedFloor (certificate v p d)) 0

-- entries of a record

abbrev pub notarized : ℕ → ℕ → ℕ → Entry
notarized v p d = artifact.Notarization (record { proposal = proposal v p d; certificate = 0 })

abbrev pub nullified : ℕ → Entry
nullified v = artifact.Nullification (record { round = record { epoch = 1; view = v }; certificate = 0 })

abbrev pub finalized : ℕ → ℕ → ℕ → Entry
finalized v p d = artifact.Finalization (record { proposal = proposal v p d; certificate = 0 })

abbrev pub verdict : ℕ → Bool → Entry
verdict v success = artifact.Certification (record { epoch = 1; view = v }) success

abbrev pub voted_notarize : ℕ → ℕ → ℕ → ℕ → Entry
voted_notarize me v p d = artifact.Notarize (record { proposal = proposal v p d; signer = me; signature = 0 })

abbrev pub voted_nullify : ℕ → ℕ → Entry
voted_nullify me v = artifact.Nullify (record { round = record { epoch = 1; view = v }; signer = me; signature = 0 })

abbrev pub voted_finalize : ℕ → ℕ → ℕ → ℕ → Entry
voted_finalize me v p d = artifact.Finalize (record { proposal = proposal v p d; signer = me; signature = 0 })
