-- Calls of a member by the definitions: the reply to each, and the record after it; of four members who lead terms of
-- one view round-robin, from
-- genesis on.
use Rattle.std.proofs.Common.{◌≡◌, refl, ℕ, ◌^◌, true, false, List, [], ◌∷◌, Option, Some, None, nat_eq}
use Rattle.simplex_types.specs.Certificates.{ProposalFacts, NullifyVote}
use Rattle.simplex_types.specs.Config.{FloorFacts, Genesis}
use Rattle.simplex_types.specs.declared.types.fault.Fault.TheVariants.{ViewTooLarge}
use Rattle.simplex_types.specs.declared.types.messages.Context.{Context}
use Rattle.simplex_voter.specs.declared.voter.propose.ProposalRequest.TheVariants as request
use Rattle.simplex_voter.specs.declared.voter.verify.Verify.TheVariants as verify
use Rattle.simplex_voter.specs.Facts.{StateFacts, new_facts}
use Rattle.simplex_voter.specs.Gaps.{first_unnullified_view}
use Rattle.simplex_voter.specs.Parents.{has_valid_parent_span, ancestry_payload_for_child, parent_payload_for, find_parent, captured_parent_valid, verification_matches}
use Rattle.simplex_voter.specs.Payloads.{explicit_ancestry_payload, optimistic_ancestry_payload, is_handoff_parent, is_voted_ancestor, can_chain_on}
use Rattle.simplex_voter.specs.ProposalRequests.{propose_answer, proposed_answer}
use Rattle.simplex_voter.specs.Rules.{may_notarize, may_nullify, may_finalize, has_conflicting_nullify, required_certification_parent}
use Rattle.simplex_voter.specs.Verification.{standing}
use Rattle.simplex_voter.specs.Windows.{is_admitted, in_issuance_window}
use Rattle.simplex_member.specs.Calls.{CallFacts, AddNotarization, SetProposal, TryPropose, Proposed, TryVerify, Verified, CertifyCandidates, SetCertifyHandle, ConstructNullify, ReplyFacts, Added, Requested, Answered, Standing, Candidates, Nullify, Done, Refused, NotAllowed}
use Rattle.simplex_member.specs.MemberFacts.{MemberFacts, reply_of, left_of}
use Rattle.simplex_member.specs.Start.{started_member}
use Rattle.simplex_record.proofs.Examples.{Entry, proposal, round, floor_at, finalization}
use Rattle.simplex_record.proofs.RecoveryExamples.{in_turn, settings}

abbrev Member : Type 0
Member = MemberFacts ℕ ℕ ℕ

abbrev State : Type 0
State = StateFacts ℕ ℕ ℕ

-- a member that starts at a floor
abbrev started_at : FloorFacts ℕ → ℕ → Member
started_at floor me =
    started_member nat_eq in_turn
    (new_facts settings (Some me) (0 ∷ 1 ∷ 2 ∷ 3 ∷ []) 1
    (record { term_length = 1; optimistic_views = 0; stall_timeout = None }) true)
    floor 0

-- and at genesis
abbrev started : ℕ → Member
started me = started_at (Genesis 0) me

-- the reply to a call, and the member after it; in these examples a failed member has no reply
abbrev replied : Option State → Member → CallFacts ℕ → ReplyFacts ℕ ℕ
replied None m call = NotAllowed
replied (Some x) m call = reply_of nat_eq in_turn x m.outstanding_work call

abbrev next : Option State → Member → CallFacts ℕ → Member
next None m call = m
next (Some x) m call = left_of nat_eq in_turn x m call

-- the replies to some calls, one after another
unfoldable replies_of : Member → List (CallFacts ℕ) → List (ReplyFacts ℕ ℕ)
unfolding standing propose_answer proposed_answer find_parent captured_parent_valid has_valid_parent_span
    ancestry_payload_for_child first_unnullified_view explicit_ancestry_payload optimistic_ancestry_payload
    is_handoff_parent is_voted_ancestor can_chain_on in_issuance_window is_admitted verification_matches
    parent_payload_for may_notarize may_nullify may_finalize has_conflicting_nullify required_certification_parent
replies_of m [] = []
replies_of m (call ∷ calls) = replied m.life m call ∷ replies_of (next m.life m call) calls

-- the record after them
unfoldable recorded : Member → List (CallFacts ℕ) → List Entry
unfolding replies_of
recorded m [] = m.entries
recorded m (call ∷ calls) = recorded (next m.life m call) calls

abbrev first_context : Context ℕ ℕ
first_context = record { round = round 1; leader = 0; parent = (0, 0) }

abbrev notarization : ℕ → ProposalFacts ℕ
notarization v = record { proposal = proposal v 0 7; bytes = [] }

-- a request to build is answered once, though the block comes too late to be recorded
built_too_late :
    replies_of (started 0) (TryPropose ∷ ConstructNullify 1 ∷ Proposed 1 7 5 ∷ Proposed 1 7 5 ∷ [])
    ≡ Requested (Some (request.Propose first_context)) ∷ Nullify (Some (false, NullifyVote (round 1) 0)) ∷ Answered
    false ∷ NotAllowed ∷ []
unfolding replies_of
built_too_late = refl

-- so is a request to verify
verified_too_late :
    replies_of (started 1)
    (SetProposal 1 (proposal 1 0 7) ∷ TryVerify ∷ ConstructNullify 1 ∷ Verified 1 ∷ Verified 1 ∷ [])
    ≡ Answered true
    ∷ Standing (verify.Ready first_context (proposal 1 0 7))
    ∷ Nullify (Some (false, NullifyVote (round 1) 1))
    ∷ Answered false
    ∷ NotAllowed
    ∷ []
unfolding replies_of
verified_too_late = refl

-- an offer stays open while others are made
offered_before :
    replies_of (started 0) (AddNotarization (notarization 1) ∷ CertifyCandidates ∷ AddNotarization (notarization 2)
    ∷ CertifyCandidates ∷ SetCertifyHandle 1 9 ∷ SetCertifyHandle 3 9 ∷ [])
    ≡ Added true None ∷ Candidates (proposal 1 0 7 ∷ []) [] ∷ Added true None ∷ Candidates (proposal 2 0 7 ∷ []) []
    ∷ Done ∷ NotAllowed ∷ []
unfolding replies_of
offered_before = refl

-- a vote that is returned again is recorded once
repeated_vote :
    replies_of (started 0) (ConstructNullify 1 ∷ ConstructNullify 1 ∷ [])
    ≡ Nullify (Some (false, NullifyVote (round 1) 0)) ∷ Nullify (Some (true, NullifyVote (round 1) 0)) ∷ []
unfolding replies_of
repeated_vote = refl

recorded_once : recorded (started 0) (ConstructNullify 1 ∷ ConstructNullify 1 ∷ []) ≡ NullifyVote (round 1) 0 ∷ []
unfolding recorded
recorded_once = refl

-- a verification that was not requested has no reply
not_asked : replies_of (started 1) (SetProposal 1 (proposal 1 0 7) ∷ Verified 1 ∷ []) ≡ Answered true ∷ NotAllowed ∷ []
unfolding replies_of
not_asked = refl

-- a call that is refused records nothing and opens nothing: a certificate of another epoch is not allowed
recorded_by_none : recorded (started 0) (AddNotarization
    (record { proposal = record { round = record { epoch = 2; view = 1 }; parent = 0; payload = 7 }; bytes = [] }) ∷ [])
    ≡ []
unfolding recorded
recorded_by_none = refl

-- nor is one whose parent is too large, which is a fault
abbrev too_large : ProposalFacts ℕ
too_large = record { proposal = proposal 1 (2 ^ 63) 7; bytes = [] }

refused_first : replies_of (started 0) (AddNotarization too_large ∷ AddNotarization (notarization 1) ∷ []) ≡ Refused
    ViewTooLarge ∷ Added true None ∷ []
unfolding replies_of
refused_first = refl

-- a finalized floor is recorded
recorded_floor : recorded (started_at (floor_at 1 20) 0) [] ≡ finalization 20 ∷ []
unfolding recorded
recorded_floor = refl
