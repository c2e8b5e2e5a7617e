-- Certification, timeouts and the moments of calls.
use Rattle.std.specs.Prelude.{◌≡◌, true, false, [], ◌∷◌, Some, None}
use Rattle.std.proofs.Common.{refl}
use Rattle.simplex_types.specs.declared.types.fault.Fault.TheVariants.{TimeOverflow}
use Rattle.simplex_types.specs.declared.reasons.TimeoutReason.TheVariants.{Retry, Inactivity, LeaderNullify, LeaderTimeout, CertificationTimeout, StallTimeout, MissingProposal, InvalidProposal, FailedCertification}
use Rattle.simplex_voter.specs.declared.voter.propose.ProposalRequest.TheVariants.{Prepare}
use Rattle.simplex_voter.specs.declared.voter.verify.Verify.TheVariants.{Ready, Wait}
use Rattle.laws_voter.proofs.Examples.Scripts.{replies_of, member, voter, keyless, usual, proposal, context, fetch, notarized, verdict, voted_notarize, voted_nullify, voted_finalize}
use Rattle.laws_voter.proofs.Examples.Scripts.Call.{AddNotarization, AddNullification, AddFinalization, SetProposal, TryPropose, TryVerify, Verified, Candidates, SetCertifyHandle, Certified, Notarize, Nullify, Finalize, Trigger, NextTimeout, Prune, Replayed, View, Elapsed, Forwardable, Restart}
use Rattle.laws_voter.proofs.Examples.Scripts.Reply.{Done, Flag, Added, Asked, Work, Offered, Judged, Vote, NullifyVote, Timeout, Views, Now, Since, Refused, NotAllowed}

-- a view led by another, from its proposal to its finalize vote, with a handoff of the next term and a restart
first_path :
    replies_of
    (voter 1 1 0)
    (
    SetProposal 1 0 7 ∷ TryVerify ∷ Verified 1 ∷ Notarize 1 ∷ TryPropose ∷ AddNotarization 1 0 7 ∷ Candidates ∷
    Certified 1 true 10 ∷ Finalize 1 ∷ Nullify 1 ∷
    Restart 20 (voted_notarize 1 1 0 7 ∷ notarized 1 0 7 ∷ verdict 1 true ∷ voted_finalize 1 1 0 7 ∷ []) ∷
    Finalize 1 ∷ View ∷ []
    )
    ≡
    Flag true ∷ Work (Ready (context 1 0 0 0) (proposal 1 0 7)) ∷ Flag true ∷ Vote (Some (proposal 1 0 7)) ∷
    Asked (Some (Prepare (context 2 1 1 7))) ∷ Added true None ∷ Offered (proposal 1 0 7 ∷ []) [] ∷
    Judged (Some (proposal 1 0 7)) ∷ Vote (Some (proposal 1 0 7)) ∷ NullifyVote None ∷ Done ∷ Vote None ∷ Now 2 0 0 ∷
    []
unfolding replies_of
first_path = refl

-- a candidate waits for its parent, and a missing parent is fetched once
candidates :
    replies_of
    (voter 0 5 0)
    (
    AddNotarization 2 1 9 ∷ Candidates ∷ Candidates ∷ AddNotarization 1 0 7 ∷ Candidates ∷ SetCertifyHandle 1 5 ∷
    Certified 1 true 10 ∷ Candidates ∷ SetCertifyHandle 2 6 ∷ AddFinalization 2 1 9 12 ∷ Certified 2 true 13 ∷
    View ∷ []
    )
    ≡
    Added true None ∷ Offered [] (fetch 2 1 ∷ []) ∷ Offered [] [] ∷ Added true None ∷
    Offered (proposal 1 0 7 ∷ []) [] ∷ Done ∷ Judged (Some (proposal 1 0 7)) ∷ Offered (proposal 2 1 9 ∷ []) [] ∷
    Done ∷ Added true None ∷ Judged (Some (proposal 2 1 9)) ∷ Now 3 2 0 ∷ []
unfolding replies_of
candidates = refl

-- each true verdict makes the next view a candidate again, and a token prevents a second offer
named_again :
    replies_of
    (voter 0 5 0)
    (
    AddNotarization 1 0 7 ∷ AddNotarization 2 1 9 ∷ Certified 1 true 10 ∷ Candidates ∷ Certified 1 true 11 ∷
    Candidates ∷ SetCertifyHandle 2 5 ∷ Certified 1 true 12 ∷ Candidates ∷ []
    )
    ≡
    Added true None ∷ Added true None ∷ Judged (Some (proposal 1 0 7)) ∷ Offered (proposal 2 1 9 ∷ []) [] ∷
    Judged (Some (proposal 1 0 7)) ∷ Offered (proposal 2 1 9 ∷ []) [] ∷ Done ∷ Judged (Some (proposal 1 0 7)) ∷
    Offered [] [] ∷ []
unfolding replies_of
named_again = refl

-- a verdict of a view that was pruned says nothing
pruned_verdict :
    replies_of
    (voter 0 1 0)
    (
    AddNotarization 1 0 7 ∷ Candidates ∷ AddFinalization 20 19 9 10 ∷ Prune ∷ SetCertifyHandle 1 5 ∷
    Certified 1 true 11 ∷ []
    )
    ≡
    Added true None ∷ Offered (proposal 1 0 7 ∷ []) [] ∷ Added true None ∷ Views (1 ∷ 2 ∷ []) ∷ Done ∷ Judged None ∷
    []
unfolding replies_of
pruned_verdict = refl

-- the first reason latches; a nullify vote moves the retry, and so does a restart
first_reason_latches :
    replies_of
    (voter 0 1 0)
    (
    NextTimeout 0 ∷ Trigger 1 Inactivity 5 ∷ Trigger 1 LeaderNullify 7 ∷ NextTimeout 8 ∷ Nullify 1 ∷
    NextTimeout 100 ∷ NextTimeout 300 ∷ Nullify 1 ∷ NextTimeout 700 ∷ Restart 20 (voted_nullify 0 1 ∷ []) ∷
    NextTimeout 30 ∷ []
    )
    ≡
    Timeout (Some (1000, LeaderTimeout)) ∷ Done ∷ Done ∷ Timeout (Some (5, Inactivity)) ∷ NullifyVote (Some false) ∷
    Timeout (Some (600, Retry)) ∷ Timeout (Some (600, Retry)) ∷ NullifyVote (Some true) ∷
    Timeout (Some (1200, Retry)) ∷ Done ∷ Timeout (Some (530, Retry)) ∷ []
unfolding replies_of
first_reason_latches = refl

-- an invalid parent times the view out at the last moment that a call carried
invalid_latches :
    replies_of
    (voter 1 1 0)
    (
    Trigger 2 MissingProposal 40 ∷ SetProposal 1 1 7 ∷ TryVerify ∷ NextTimeout 50 ∷ []
    )
    ≡
    Done ∷ Flag true ∷ Work Wait ∷ Timeout (Some (40, InvalidProposal)) ∷ []
unfolding replies_of
invalid_latches = refl

-- a held proposal ends the leader timeout, and a latch comes before the certification timeout
latch_wins :
    replies_of
    (voter 0 1 0)
    (
    NextTimeout 0 ∷ SetProposal 1 0 7 ∷ NextTimeout 0 ∷ Trigger 1 LeaderNullify 5 ∷ NextTimeout 0 ∷ []
    )
    ≡
    Timeout (Some (1000, LeaderTimeout)) ∷ Flag true ∷ Timeout (Some (2000, CertificationTimeout)) ∷ Done ∷
    Timeout (Some (5, LeaderNullify)) ∷ []
unfolding replies_of
latch_wins = refl

-- without a key no vote is returned, and nullify is decided all the same
decided_without_key :
    replies_of
    (keyless 1 0)
    (
    Nullify 1 ∷ NextTimeout 100 ∷ []
    )
    ≡
    NullifyVote None ∷ Timeout (Some (600, Retry)) ∷ []
unfolding replies_of
decided_without_key = refl

-- a refused call records no moment
no_moment_of_a_fault :
    replies_of
    (voter 1 1 0)
    (
    AddFinalization 1 0 7 18446744073709551615 ∷ SetProposal 1 1 7 ∷ TryVerify ∷ NextTimeout 50 ∷ []
    )
    ≡
    Refused TimeOverflow ∷ Flag true ∷ Work Wait ∷ Timeout (Some (0, InvalidProposal)) ∷ []
unfolding replies_of
no_moment_of_a_fault = refl

-- a verdict without effect records its moment
moment_of_an_untracked_verdict :
    replies_of
    (voter 1 1 0)
    (
    Certified 9 true 70 ∷ SetProposal 1 1 7 ∷ TryVerify ∷ NextTimeout 50 ∷ []
    )
    ≡
    Judged None ∷ Flag true ∷ Work Wait ∷ Timeout (Some (70, InvalidProposal)) ∷ []
unfolding replies_of
moment_of_an_untracked_verdict = refl

-- a call that is not allowed records no moment
no_moment_unless_allowed :
    replies_of
    (voter 1 1 0)
    (
    Certified 1 true 99 ∷ SetProposal 1 1 7 ∷ TryVerify ∷ NextTimeout 50 ∷ []
    )
    ≡
    NotAllowed ∷ Flag true ∷ Work Wait ∷ Timeout (Some (0, InvalidProposal)) ∷ []
unfolding replies_of
no_moment_unless_allowed = refl

-- without budget a latch doesn't count
no_skip_budget :
    replies_of
    (member (Some 0) (record { term_length = 1; optimistic_views = 0; stall_timeout = None })
    (record usual { skip_budget = 0 }) 0)
    (
    SetProposal 1 0 7 ∷ Trigger 1 LeaderNullify 5 ∷ NextTimeout 0 ∷ []
    )
    ≡
    Flag true ∷ Done ∷ Timeout (Some (2000, CertificationTimeout)) ∷ []
unfolding replies_of
no_skip_budget = refl

-- with a budget of one term it does
little_skip_budget :
    replies_of
    (member (Some 0) (record { term_length = 1; optimistic_views = 0; stall_timeout = None })
    (record usual { skip_budget = 1 }) 0)
    (
    SetProposal 1 0 7 ∷ Trigger 1 LeaderNullify 5 ∷ NextTimeout 0 ∷ []
    )
    ≡
    Flag true ∷ Done ∷ Timeout (Some (5, LeaderNullify)) ∷ []
unfolding replies_of
little_skip_budget = refl

-- the least entered view of the term that isn't finalized says when the term stalls
stall :
    replies_of
    (member (Some 0) (record { term_length = 5; optimistic_views = 0; stall_timeout = Some 5000 })
    (record usual { leader_timeout = 9000; certification_timeout = 10000 }) 0)
    (
    NextTimeout 10 ∷ AddNotarization 1 0 0 ∷ Certified 1 true 100 ∷ NextTimeout 100 ∷ AddFinalization 1 0 0 100 ∷
    NextTimeout 100 ∷ NextTimeout 9100 ∷ []
    )
    ≡
    Timeout (Some (5000, StallTimeout)) ∷ Added true None ∷ Judged (Some (proposal 1 0 0)) ∷
    Timeout (Some (5000, StallTimeout)) ∷ Added true None ∷ Timeout (Some (5100, StallTimeout)) ∷
    Timeout (Some (9100, LeaderTimeout)) ∷ []
unfolding replies_of
stall = refl

-- inactivity is not believed of a leader whose proposal is held
active_leader :
    replies_of
    (voter 1 1 0)
    (
    SetProposal 1 0 7 ∷ Trigger 1 Inactivity 5 ∷ NextTimeout 8 ∷ SetProposal 1 0 8 ∷ Trigger 1 Inactivity 9 ∷
    NextTimeout 10 ∷ []
    )
    ≡
    Flag true ∷ Done ∷ Timeout (Some (2000, CertificationTimeout)) ∷ Flag false ∷ Done ∷
    Timeout (Some (9, Inactivity)) ∷ []
unfolding replies_of
active_leader = refl

-- a false verdict times the view out
failed_certification :
    replies_of
    (voter 1 1 0)
    (
    AddNotarization 1 0 7 ∷ Candidates ∷ Certified 1 false 30 ∷ NextTimeout 40 ∷ Finalize 1 ∷ Forwardable 1 ∷ []
    )
    ≡
    Added true None ∷ Offered (proposal 1 0 7 ∷ []) [] ∷ Judged (Some (proposal 1 0 7)) ∷
    Timeout (Some (30, FailedCertification)) ∷ Vote None ∷ Vote None ∷ []
unfolding replies_of
failed_certification = refl

-- a retry that passes 64 bits is refused
late_retry :
    replies_of
    (voter 0 1 0)
    (
    Nullify 1 ∷ NextTimeout 18446744073709551615 ∷ NextTimeout 30 ∷ []
    )
    ≡
    NullifyVote (Some false) ∷ Refused TimeOverflow ∷ Timeout (Some (530, Retry)) ∷ []
unfolding replies_of
late_retry = refl

-- a stall deadline that passes 64 bits is refused
late_stall :
    replies_of
    (member (Some 0) (record { term_length = 5; optimistic_views = 0; stall_timeout = Some 5000 }) usual 0)
    (
    AddNullification 3 18446744073709548616 ∷ AddNullification 3 18446744073709540000 ∷ []
    )
    ≡
    Refused TimeOverflow ∷ Flag true ∷ []
unfolding replies_of
late_stall = refl

-- a round's own timeout that is due comes before the stall
expired_round :
    replies_of
    (member (Some 0) (record { term_length = 5; optimistic_views = 0; stall_timeout = Some 500 }) usual 0)
    (
    NextTimeout 400 ∷ NextTimeout 999 ∷ NextTimeout 1000 ∷ []
    )
    ≡
    Timeout (Some (500, StallTimeout)) ∷ Timeout (Some (500, StallTimeout)) ∷ Timeout (Some (1000, LeaderTimeout)) ∷
    []
unfolding replies_of
expired_round = refl

-- a retry comes before the stall
retry_over_stall :
    replies_of
    (member (Some 0) (record { term_length = 5; optimistic_views = 0; stall_timeout = Some 500 }) usual 0)
    (
    Nullify 1 ∷ NextTimeout 600 ∷ []
    )
    ≡
    NullifyVote (Some false) ∷ Timeout (Some (1100, Retry)) ∷ []
unfolding replies_of
retry_over_stall = refl

-- a latch waits while too many terms were skipped
skipped_terms :
    replies_of
    (member (Some 0) (record { term_length = 1; optimistic_views = 0; stall_timeout = None })
    (record usual { skip_budget = 2 }) 0)
    (
    AddNullification 1 5 ∷ Trigger 2 MissingProposal 6 ∷ NextTimeout 7 ∷ AddNullification 2 8 ∷
    Trigger 3 MissingProposal 9 ∷ NextTimeout 10 ∷ AddFinalization 1 0 7 11 ∷ NextTimeout 12 ∷ []
    )
    ≡
    Flag true ∷ Done ∷ Timeout (Some (6, MissingProposal)) ∷ Flag true ∷ Done ∷ Timeout (Some (1008, LeaderTimeout)) ∷
    Added true None ∷ Timeout (Some (9, MissingProposal)) ∷ []
unfolding replies_of
skipped_terms = refl

-- a current view whose finalize vote was replayed has no timeout
decided_current_view :
    replies_of
    (voter 0 1 0)
    (
    AddNotarization 1 0 7 ∷ Replayed (verdict 1 true) ∷ Replayed (voted_finalize 0 1 0 7) ∷ NextTimeout 5 ∷ []
    )
    ≡
    Added true None ∷ Done ∷ Done ∷ NotAllowed ∷ []
unfolding replies_of
decided_current_view = refl

-- no view at or below the last finalized one waits for certification
finalized_candidates :
    replies_of
    (voter 0 1 0)
    (
    AddNotarization 1 0 7 ∷ AddFinalization 2 1 9 5 ∷ AddNotarization 2 1 9 ∷ Candidates ∷ AddNotarization 3 2 4 ∷
    Candidates ∷ []
    )
    ≡
    Added true None ∷ Added true None ∷ Added true None ∷ Offered [] [] ∷ Added true None ∷
    Offered (proposal 3 2 4 ∷ []) [] ∷ []
unfolding replies_of
finalized_candidates = refl

-- a proposal that skips views inside its term is never offered
invalid_candidate :
    replies_of
    (voter 0 5 0)
    (
    AddNotarization 2 0 9 ∷ Candidates ∷ AddNotarization 1 0 7 ∷ Certified 1 true 10 ∷ Candidates ∷ []
    )
    ≡
    Added true None ∷ Offered [] [] ∷ Added true None ∷ Judged (Some (proposal 1 0 7)) ∷ Offered [] [] ∷ []
unfolding replies_of
invalid_candidate = refl

-- nor is one whose parent is not below
parent_not_below :
    replies_of
    (voter 0 1 0)
    (
    AddNotarization 1 5 7 ∷ Candidates ∷ []
    )
    ≡
    Added true None ∷ Offered [] [] ∷ []
unfolding replies_of
parent_not_below = refl

-- a finalization of the parent lets a proposal be offered
woken_by_finalization :
    replies_of
    (voter 0 5 0)
    (
    AddNotarization 2 1 9 ∷ Candidates ∷ AddFinalization 1 0 7 10 ∷ Candidates ∷ []
    )
    ≡
    Added true None ∷ Offered [] (fetch 2 1 ∷ []) ∷ Added true None ∷ Offered (proposal 2 1 9 ∷ []) [] ∷ []
unfolding replies_of
woken_by_finalization = refl

-- a verdict or a token ends the offers
judged_once :
    replies_of
    (voter 0 1 0)
    (
    AddNotarization 1 0 7 ∷ Candidates ∷ SetCertifyHandle 1 5 ∷ Certified 1 true 10 ∷ SetCertifyHandle 1 6 ∷ []
    )
    ≡
    Added true None ∷ Offered (proposal 1 0 7 ∷ []) [] ∷ Done ∷ Judged (Some (proposal 1 0 7)) ∷ NotAllowed ∷ []
unfolding replies_of
judged_once = refl

-- how long a view has been worked on
elapsed :
    replies_of
    (voter 0 1 0)
    (
    Elapsed 1 30 ∷ Elapsed 2 30 ∷ AddNullification 1 40 ∷ Elapsed 2 30 ∷ Elapsed 2 50 ∷ []
    )
    ≡
    Since (Some 30) (Some 30) ∷ Since None None ∷ Flag true ∷ Since (Some 0) (Some 0) ∷ Since (Some 10) (Some 10) ∷ []
unfolding replies_of
elapsed = refl

-- an earlier term stalls nothing
stall_of_the_term :
    replies_of
    (member (Some 0) (record { term_length = 1; optimistic_views = 0; stall_timeout = Some 500 }) usual 0)
    (
    AddNullification 1 100 ∷ NextTimeout 100 ∷ []
    )
    ≡
    Flag true ∷ Timeout (Some (600, StallTimeout)) ∷ []
unfolding replies_of
stall_of_the_term = refl

-- a verdict wakes the next view only where that waited
wakes_what_waited :
    replies_of
    (voter 0 1 0)
    (
    AddNotarization 2 0 9 ∷ Candidates ∷ AddNotarization 1 0 7 ∷ Candidates ∷ Certified 1 true 5 ∷ Candidates ∷ []
    )
    ≡
    Added true None ∷ Offered (proposal 2 0 9 ∷ []) [] ∷ Added true None ∷ Offered (proposal 1 0 7 ∷ []) [] ∷
    Judged (Some (proposal 1 0 7)) ∷ Offered [] [] ∷ []
unfolding replies_of
wakes_what_waited = refl

-- a leader that did not vote needs no parent certified
not_handed_over :
    replies_of
    (voter 1 1 0)
    (
    AddNotarization 2 1 8 ∷ Candidates ∷ []
    )
    ≡
    Added true None ∷ Offered (proposal 2 1 8 ∷ []) [] ∷ []
unfolding replies_of
not_handed_over = refl

-- a required parent that is notarized is not fetched, only waited for
notarized_parent :
    replies_of
    (voter 0 5 0)
    (
    AddNotarization 1 0 7 ∷ AddNotarization 2 1 9 ∷ Candidates ∷ []
    )
    ≡
    Added true None ∷ Added true None ∷ Offered (proposal 1 0 7 ∷ []) [] ∷ []
unfolding replies_of
notarized_parent = refl

-- a stall deadline at the very moment of the round's own timeout comes first
stall_beside_a_timeout :
    replies_of
    (member (Some 0) (record { term_length = 5; optimistic_views = 0; stall_timeout = Some 1000 }) usual 0)
    (
    NextTimeout 400 ∷ []
    )
    ≡
    Timeout (Some (1000, StallTimeout)) ∷ []
unfolding replies_of
stall_beside_a_timeout = refl
