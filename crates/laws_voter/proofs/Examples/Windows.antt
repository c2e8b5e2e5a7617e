-- The issuance window, optimistic chains and handoffs.
use Rattle.std.specs.Prelude.{◌≡◌, true, false, [], ◌∷◌, Some, None}
use Rattle.std.proofs.Common.{refl}
use Rattle.simplex_types.specs.declared.reasons.HandoffAbandonedReason.TheVariants.{AncestryInvalidated, ParentNullify}
use Rattle.simplex_types.specs.declared.reasons.TimeoutReason.TheVariants.{CertificationTimeout, InvalidProposal}
use Rattle.simplex_voter.specs.declared.voter.propose.ProposalRequest.TheVariants.{Prepare, Propose}
use Rattle.simplex_voter.specs.declared.voter.verify.Verify.TheVariants.{Ready, Wait}
use Rattle.laws_voter.proofs.Examples.Scripts.{replies_of, voter, proposal, context, fetch, notarized, voted_notarize}
use Rattle.laws_voter.proofs.Examples.Scripts.Call.{AddNotarization, AddNullification, AddFinalization, SetProposal, TryPropose, Proposed, Supersede, Abandonment, Release, TryVerify, Verified, Rejected, Candidates, Certified, Notarize, Nullify, Finalize, NextTimeout, Prune, Replayed, View, Leader, Forwardable, ParentCertified, Restart}
use Rattle.laws_voter.proofs.Examples.Scripts.Reply.{Done, Flag, Added, Asked, Abandoned, Work, Offered, Judged, Vote, NullifyVote, Timeout, Views, Now, Member, NotAllowed}

-- a chain of votes before any certificate; a parent outside of what was voted for waits for its verdict
chain :
    replies_of
    (voter 1 5 1)
    (
    SetProposal 1 0 7 ∷ SetProposal 2 1 9 ∷ TryVerify ∷ TryVerify ∷ Verified 1 ∷ Notarize 1 ∷ TryVerify ∷
    Verified 2 ∷ Notarize 2 ∷ SetProposal 3 2 4 ∷ AddNotarization 1 0 7 ∷ TryVerify ∷ Certified 1 true 10 ∷
    TryVerify ∷ []
    )
    ≡
    Flag true ∷ Flag true ∷ Work (Ready (context 1 0 0 0) (proposal 1 0 7)) ∷ Work Wait ∷ Flag true ∷
    Vote (Some (proposal 1 0 7)) ∷ Work (Ready (context 2 0 1 7) (proposal 2 1 9)) ∷ Flag true ∷
    Vote (Some (proposal 2 1 9)) ∷ Flag true ∷ Added true None ∷ Work Wait ∷ Judged (Some (proposal 1 0 7)) ∷
    Work (Ready (context 3 0 2 9) (proposal 3 2 4)) ∷ []
unfolding replies_of
chain = refl

-- a vote is withheld where the parent was certified with another payload
other_parent :
    replies_of
    (voter 1 5 1)
    (
    SetProposal 1 0 7 ∷ SetProposal 2 1 9 ∷ TryVerify ∷ TryVerify ∷ Verified 1 ∷ Notarize 1 ∷ TryVerify ∷
    Verified 2 ∷ AddNotarization 1 0 8 ∷ Notarize 2 ∷ []
    )
    ≡
    Flag true ∷ Flag true ∷ Work (Ready (context 1 0 0 0) (proposal 1 0 7)) ∷ Work Wait ∷ Flag true ∷
    Vote (Some (proposal 1 0 7)) ∷ Work (Ready (context 2 0 1 7) (proposal 2 1 9)) ∷ Flag true ∷
    Added true (Some 0) ∷ Vote None ∷ []
unfolding replies_of
other_parent = refl

-- the whole term lies in the window
long_window :
    replies_of
    (voter 1 5 4)
    (
    SetProposal 1 0 7 ∷ SetProposal 2 1 9 ∷ TryVerify ∷ TryVerify ∷ Verified 1 ∷ Notarize 1 ∷ TryVerify ∷
    Verified 2 ∷ Notarize 2 ∷ []
    )
    ≡
    Flag true ∷ Flag true ∷ Work (Ready (context 1 0 0 0) (proposal 1 0 7)) ∷ Work Wait ∷ Flag true ∷
    Vote (Some (proposal 1 0 7)) ∷ Work (Ready (context 2 0 1 7) (proposal 2 1 9)) ∷ Flag true ∷
    Vote (Some (proposal 2 1 9)) ∷ []
unfolding replies_of
long_window = refl

-- a handoff is prepared on an uncertified parent, and abandoned if the term before is nullified
handoff_given_up :
    replies_of
    (voter 1 1 0)
    (
    SetProposal 1 0 7 ∷ TryVerify ∷ TryVerify ∷ Verified 1 ∷ Notarize 1 ∷ Notarize 1 ∷ TryPropose ∷ Nullify 1 ∷
    Abandonment (context 2 1 1 7) ∷ AddNullification 1 10 ∷ View ∷ Abandonment (context 2 1 1 7) ∷
    Supersede (context 2 1 1 7) ∷ TryPropose ∷ []
    )
    ≡
    Flag true ∷ Work (Ready (context 1 0 0 0) (proposal 1 0 7)) ∷ Work Wait ∷ Flag true ∷
    Vote (Some (proposal 1 0 7)) ∷ Vote None ∷ Asked (Some (Prepare (context 2 1 1 7))) ∷ NullifyVote (Some false) ∷
    Abandoned (Some ParentNullify) ∷ Flag true ∷ Now 2 0 0 ∷ Abandoned (Some AncestryInvalidated) ∷ Flag true ∷
    Asked (Some (Propose (context 2 1 0 0))) ∷ []
unfolding replies_of
handoff_given_up = refl

-- a handoff is proposed and voted for before its view is entered
handoff_proposed :
    replies_of
    (voter 1 1 0)
    (
    SetProposal 1 0 7 ∷ TryVerify ∷ TryVerify ∷ Verified 1 ∷ Notarize 1 ∷ Notarize 1 ∷ TryPropose ∷
    Proposed (context 2 1 1 7) 8 3 ∷ Notarize 2 ∷ View ∷ []
    )
    ≡
    Flag true ∷ Work (Ready (context 1 0 0 0) (proposal 1 0 7)) ∷ Work Wait ∷ Flag true ∷
    Vote (Some (proposal 1 0 7)) ∷ Vote None ∷ Asked (Some (Prepare (context 2 1 1 7))) ∷ Flag true ∷
    Vote (Some (proposal 2 1 8)) ∷ Now 1 0 0 ∷ []
unfolding replies_of
handoff_proposed = refl

-- with a nullification in the term below there is no handoff
no_handoff_when_nullified :
    replies_of
    (voter 1 2 1)
    (
    SetProposal 1 0 7 ∷ TryVerify ∷ Verified 1 ∷ Notarize 1 ∷ SetProposal 2 1 9 ∷ TryVerify ∷ Verified 2 ∷
    Notarize 2 ∷ AddNullification 2 10 ∷ View ∷ TryPropose ∷ AddNullification 1 11 ∷ TryPropose ∷ []
    )
    ≡
    Flag true ∷ Work (Ready (context 1 0 0 0) (proposal 1 0 7)) ∷ Flag true ∷ Vote (Some (proposal 1 0 7)) ∷
    Flag true ∷ Work (Ready (context 2 0 1 7) (proposal 2 1 9)) ∷ Flag true ∷ Vote (Some (proposal 2 1 9)) ∷
    Flag true ∷ Now 3 0 0 ∷ Asked None ∷ Flag true ∷ Asked (Some (Propose (context 3 1 0 0))) ∷ []
unfolding replies_of
no_handoff_when_nullified = refl

-- a proposal that the slot doesn't take still readies the next view
leader_copied :
    replies_of
    (voter 1 5 1)
    (
    Nullify 1 ∷ SetProposal 1 0 7 ∷ SetProposal 2 1 9 ∷ AddNotarization 2 1 8 ∷ []
    )
    ≡
    NullifyVote (Some false) ∷ Flag false ∷ Flag true ∷ Added true (Some 0) ∷ []
unfolding replies_of
leader_copied = refl

-- a view whose leader is set is tracked, so a verdict there lacks its notarization
tracked_by_leader :
    replies_of
    (voter 0 5 2)
    (
    AddNotarization 1 0 7 ∷ Certified 2 true 1 ∷ Certified 4 true 1 ∷ Certified 5 true 1 ∷
    AddFinalization 30 29 7 2 ∷ Prune ∷ []
    )
    ≡
    Added true None ∷ NotAllowed ∷ NotAllowed ∷ Judged None ∷ Added true None ∷ Views (1 ∷ 2 ∷ 3 ∷ 4 ∷ []) ∷ []
unfolding replies_of
tracked_by_leader = refl

-- inside a term a proposal names the view before
skips_inside_a_term :
    replies_of
    (voter 1 5 1)
    (
    SetProposal 1 0 7 ∷ SetProposal 2 0 9 ∷ TryVerify ∷ TryVerify ∷ AddNotarization 1 0 7 ∷ Certified 1 true 10 ∷
    NextTimeout 20 ∷ []
    )
    ≡
    Flag true ∷ Flag true ∷ Work (Ready (context 1 0 0 0) (proposal 1 0 7)) ∷ Work Wait ∷ Added true None ∷
    Judged (Some (proposal 1 0 7)) ∷ Timeout (Some (0, InvalidProposal)) ∷ []
unfolding replies_of
skips_inside_a_term = refl

-- below a failed certification nothing is built on in its term, until a finalization overrides it
failed_ancestor :
    replies_of
    (voter 1 5 4)
    (
    AddNotarization 1 0 7 ∷ Certified 1 false 5 ∷ AddNotarization 2 1 9 ∷ SetProposal 3 2 4 ∷ TryVerify ∷
    TryVerify ∷ AddFinalization 1 0 7 10 ∷ TryVerify ∷ TryVerify ∷ []
    )
    ≡
    Added true None ∷ Judged (Some (proposal 1 0 7)) ∷ Added true None ∷ Flag true ∷
    Work (Ready (context 1 0 0 0) (proposal 1 0 7)) ∷ Work Wait ∷ Added true None ∷
    Work (Ready (context 2 0 1 7) (proposal 2 1 9)) ∷ Work (Ready (context 3 0 2 9) (proposal 3 2 4)) ∷ []
unfolding replies_of
failed_ancestor = refl

-- a failed certification above hinders nothing below
failed_descendant :
    replies_of
    (voter 1 5 4)
    (
    AddNotarization 1 0 7 ∷ AddNotarization 2 1 9 ∷ AddNotarization 3 2 4 ∷ Certified 3 false 5 ∷ TryVerify ∷
    TryVerify ∷ TryVerify ∷ []
    )
    ≡
    Added true None ∷ Added true None ∷ Added true None ∷ Judged (Some (proposal 3 2 4)) ∷
    Work (Ready (context 1 0 0 0) (proposal 1 0 7)) ∷ Work (Ready (context 2 0 1 7) (proposal 2 1 9)) ∷
    Work (Ready (context 3 0 2 9) (proposal 3 2 4)) ∷ []
unfolding replies_of
failed_descendant = refl

-- a failed certification hinders nothing in the next term
failed_in_another_term :
    replies_of
    (voter 0 2 1)
    (
    AddNotarization 1 0 7 ∷ Certified 1 false 5 ∷ AddNotarization 3 0 9 ∷ AddNullification 1 6 ∷ SetProposal 4 3 4 ∷
    TryVerify ∷ TryVerify ∷ []
    )
    ≡
    Added true None ∷ Judged (Some (proposal 1 0 7)) ∷ Added true None ∷ Flag true ∷ Flag true ∷
    Work (Ready (context 3 1 0 0) (proposal 3 0 9)) ∷ Work (Ready (context 4 1 3 9) (proposal 4 3 4)) ∷ []
unfolding replies_of
failed_in_another_term = refl

-- a chain does not rest on a view whose leader proposed twice
conflict_breaks_the_chain :
    replies_of
    (voter 1 5 1)
    (
    SetProposal 1 0 7 ∷ TryVerify ∷ Verified 1 ∷ Notarize 1 ∷ SetProposal 1 0 8 ∷ SetProposal 2 1 9 ∷ TryVerify ∷ []
    )
    ≡
    Flag true ∷ Work (Ready (context 1 0 0 0) (proposal 1 0 7)) ∷ Flag true ∷ Vote (Some (proposal 1 0 7)) ∷
    Flag false ∷ Flag true ∷ Work Wait ∷ []
unfolding replies_of
conflict_breaks_the_chain = refl

-- an answer for a parent that was replaced takes the binding away
stale_answer :
    replies_of
    (voter 1 5 1)
    (
    SetProposal 1 0 7 ∷ SetProposal 2 1 9 ∷ TryVerify ∷ Verified 1 ∷ Notarize 1 ∷ TryVerify ∷
    AddNotarization 1 0 8 ∷ Verified 2 ∷ NextTimeout 20 ∷ Verified 2 ∷ []
    )
    ≡
    Flag true ∷ Flag true ∷ Work (Ready (context 1 0 0 0) (proposal 1 0 7)) ∷ Flag true ∷
    Vote (Some (proposal 1 0 7)) ∷ Work (Ready (context 2 0 1 7) (proposal 2 1 9)) ∷ Added true (Some 0) ∷
    Flag false ∷ Timeout (Some (2000, CertificationTimeout)) ∷ Flag true ∷ []
unfolding replies_of
stale_answer = refl

-- a rejection for a parent that was replaced does not time the view out
stale_rejection :
    replies_of
    (voter 1 5 1)
    (
    SetProposal 1 0 7 ∷ SetProposal 2 1 9 ∷ TryVerify ∷ Verified 1 ∷ Notarize 1 ∷ TryVerify ∷
    AddNotarization 1 0 8 ∷ Rejected 2 InvalidProposal 30 ∷ Certified 1 true 40 ∷ NextTimeout 50 ∷ []
    )
    ≡
    Flag true ∷ Flag true ∷ Work (Ready (context 1 0 0 0) (proposal 1 0 7)) ∷ Flag true ∷
    Vote (Some (proposal 1 0 7)) ∷ Work (Ready (context 2 0 1 7) (proposal 2 1 9)) ∷ Added true (Some 0) ∷ Done ∷
    Judged (Some (proposal 1 0 8)) ∷ Timeout (Some (2040, CertificationTimeout)) ∷ []
unfolding replies_of
stale_rejection = refl

-- nor does a chain rest on a view that was bound to another payload
bound_chain :
    replies_of
    (voter 1 5 2)
    (
    SetProposal 1 0 7 ∷ SetProposal 2 1 9 ∷ TryVerify ∷ Verified 1 ∷ Notarize 1 ∷ TryVerify ∷ Verified 2 ∷
    Notarize 2 ∷ AddNotarization 1 0 8 ∷ SetProposal 3 2 4 ∷ TryVerify ∷ []
    )
    ≡
    Flag true ∷ Flag true ∷ Work (Ready (context 1 0 0 0) (proposal 1 0 7)) ∷ Flag true ∷
    Vote (Some (proposal 1 0 7)) ∷ Work (Ready (context 2 0 1 7) (proposal 2 1 9)) ∷ Flag true ∷
    Vote (Some (proposal 2 1 9)) ∷ Added true (Some 0) ∷ Flag true ∷ Work Wait ∷ []
unfolding replies_of
bound_chain = refl

-- a chain rests on votes, and not on verified proposals
verified_is_not_voted :
    replies_of
    (voter 1 5 1)
    (
    SetProposal 1 0 7 ∷ SetProposal 2 1 9 ∷ TryVerify ∷ Verified 1 ∷ TryVerify ∷ Notarize 1 ∷ TryVerify ∷ []
    )
    ≡
    Flag true ∷ Flag true ∷ Work (Ready (context 1 0 0 0) (proposal 1 0 7)) ∷ Flag true ∷ Work Wait ∷
    Vote (Some (proposal 1 0 7)) ∷ Work (Ready (context 2 0 1 7) (proposal 2 1 9)) ∷ []
unfolding replies_of
verified_is_not_voted = refl

-- inside its own term a leader takes over nothing
own_term :
    replies_of
    (voter 0 5 0)
    (
    TryPropose ∷ Proposed (context 1 0 0 0) 7 3 ∷ Notarize 1 ∷ Leader 2 ∷ TryPropose ∷ []
    )
    ≡
    Asked (Some (Propose (context 1 0 0 0))) ∷ Flag true ∷ Vote (Some (proposal 1 0 7)) ∷ Member None ∷ Asked None ∷
    []
unfolding replies_of
own_term = refl

-- inside its window a view waits for a payload of the view before
unvoted_parent :
    replies_of
    (voter 1 5 1)
    (
    SetProposal 1 0 7 ∷ SetProposal 2 1 9 ∷ Verified 2 ∷ Notarize 2 ∷ []
    )
    ≡
    Flag true ∷ Flag true ∷ Flag true ∷ Vote None ∷ []
unfolding replies_of
unvoted_parent = refl

-- a chain does not rest on a replayed vote with a gap below
vote_over_a_gap :
    replies_of
    (voter 0 2 1)
    (
    AddNotarization 1 0 7 ∷ Certified 1 true 5 ∷ Replayed (voted_notarize 0 3 1 8) ∷ AddNotarization 2 1 9 ∷
    Certified 2 true 6 ∷ SetProposal 4 3 4 ∷ TryVerify ∷ []
    )
    ≡
    Added true None ∷ Judged (Some (proposal 1 0 7)) ∷ Done ∷ Added true None ∷ Judged (Some (proposal 2 1 9)) ∷
    Flag true ∷ Work Wait ∷ []
unfolding replies_of
vote_over_a_gap = refl

-- nor on a vote whose parent lies under the last finalized view
vote_under_finalized :
    replies_of
    (voter 3 1 0)
    (
    AddNotarization 1 0 7 ∷ Certified 1 true 5 ∷ AddNullification 2 6 ∷ SetProposal 3 1 8 ∷ TryVerify ∷ Verified 3 ∷
    Notarize 3 ∷ TryPropose ∷ AddFinalization 2 1 5 7 ∷ Release 4 ∷ TryPropose ∷ []
    )
    ≡
    Added true None ∷ Judged (Some (proposal 1 0 7)) ∷ Flag true ∷ Flag true ∷
    Work (Ready (context 3 2 1 7) (proposal 3 1 8)) ∷ Flag true ∷ Vote (Some (proposal 3 1 8)) ∷
    Asked (Some (Prepare (context 4 3 3 8))) ∷ Added true None ∷ Done ∷ Asked None ∷ []
unfolding replies_of
vote_under_finalized = refl

-- a handoff is not prepared after this member's vote to nullify the current view
handoff_waits :
    replies_of
    (voter 1 1 0)
    (
    SetProposal 1 0 7 ∷ TryVerify ∷ Verified 1 ∷ Notarize 1 ∷ Nullify 1 ∷ TryPropose ∷ Leader 2 ∷
    AddNotarization 1 0 7 ∷ Certified 1 true 10 ∷ TryPropose ∷ []
    )
    ≡
    Flag true ∷ Work (Ready (context 1 0 0 0) (proposal 1 0 7)) ∷ Flag true ∷ Vote (Some (proposal 1 0 7)) ∷
    NullifyVote (Some false) ∷ Asked None ∷ Member (Some 1) ∷ Added true None ∷ Judged (Some (proposal 1 0 7)) ∷
    Asked (Some (Propose (context 2 1 1 7))) ∷ []
unfolding replies_of
handoff_waits = refl

-- once its parent is certified a handoff continues
handoff_certified :
    replies_of
    (voter 1 1 0)
    (
    SetProposal 1 0 7 ∷ TryVerify ∷ Verified 1 ∷ Notarize 1 ∷ TryPropose ∷ Abandonment (context 2 1 1 7) ∷
    ParentCertified 1 7 ∷ AddNotarization 1 0 7 ∷ Certified 1 true 10 ∷ Nullify 2 ∷ Abandonment (context 2 1 1 7) ∷
    ParentCertified 1 7 ∷ ParentCertified 1 8 ∷ Forwardable 1 ∷ []
    )
    ≡
    Flag true ∷ Work (Ready (context 1 0 0 0) (proposal 1 0 7)) ∷ Flag true ∷ Vote (Some (proposal 1 0 7)) ∷
    Asked (Some (Prepare (context 2 1 1 7))) ∷ Abandoned None ∷ Flag false ∷ Added true None ∷
    Judged (Some (proposal 1 0 7)) ∷ NullifyVote (Some false) ∷ Abandoned None ∷ Flag true ∷ Flag false ∷
    Vote (Some (proposal 1 0 7)) ∷ []
unfolding replies_of
handoff_certified = refl

-- a proposer of a handoff certifies it after its parent
handed_over_parent :
    replies_of
    (voter 1 1 0)
    (
    SetProposal 1 0 7 ∷ TryVerify ∷ Verified 1 ∷ Notarize 1 ∷ TryPropose ∷ Proposed (context 2 1 1 7) 8 3 ∷
    Notarize 2 ∷ AddNotarization 2 1 8 ∷ Candidates ∷ AddNotarization 1 0 7 ∷ Candidates ∷ Certified 1 true 10 ∷
    Candidates ∷ Certified 2 true 11 ∷ Finalize 2 ∷ []
    )
    ≡
    Flag true ∷ Work (Ready (context 1 0 0 0) (proposal 1 0 7)) ∷ Flag true ∷ Vote (Some (proposal 1 0 7)) ∷
    Asked (Some (Prepare (context 2 1 1 7))) ∷ Flag true ∷ Vote (Some (proposal 2 1 8)) ∷ Added true None ∷
    Offered [] (fetch 2 1 ∷ []) ∷ Added true None ∷ Offered (proposal 1 0 7 ∷ []) [] ∷
    Judged (Some (proposal 1 0 7)) ∷ Offered (proposal 2 1 8 ∷ []) [] ∷ Judged (Some (proposal 2 1 8)) ∷
    Vote (Some (proposal 2 1 8)) ∷ []
unfolding replies_of
handed_over_parent = refl

-- an elector that needs the certificate hands nothing over
elected_late :
    replies_of
    (record (voter 1 1 0) { elects_early = false })
    (
    SetProposal 1 0 7 ∷ TryVerify ∷ Verified 1 ∷ Notarize 1 ∷ TryPropose ∷ Leader 2 ∷ []
    )
    ≡
    Flag true ∷ Work (Ready (context 1 0 0 0) (proposal 1 0 7)) ∷ Flag true ∷ Vote (Some (proposal 1 0 7)) ∷
    Asked None ∷ Member None ∷ []
unfolding replies_of
elected_late = refl

-- a member takes over only the terms that it leads
others_handoff :
    replies_of
    (voter 2 1 0)
    (
    SetProposal 1 0 7 ∷ TryVerify ∷ Verified 1 ∷ Notarize 1 ∷ TryPropose ∷ Leader 2 ∷ []
    )
    ≡
    Flag true ∷ Work (Ready (context 1 0 0 0) (proposal 1 0 7)) ∷ Flag true ∷ Vote (Some (proposal 1 0 7)) ∷
    Asked None ∷ Member None ∷ []
unfolding replies_of
others_handoff = refl

-- inside its term a leader builds on its own votes
own_chain :
    replies_of
    (voter 0 5 1)
    (
    TryPropose ∷ Proposed (context 1 0 0 0) 7 3 ∷ Notarize 1 ∷ TryPropose ∷ []
    )
    ≡
    Asked (Some (Propose (context 1 0 0 0))) ∷ Flag true ∷ Vote (Some (proposal 1 0 7)) ∷
    Asked (Some (Propose (context 2 0 1 7))) ∷ []
unfolding replies_of
own_chain = refl

-- a member takes over after its own vote
not_taken_over_yet :
    replies_of
    (voter 1 1 0)
    (
    SetProposal 1 0 7 ∷ Leader 2 ∷ TryVerify ∷ Verified 1 ∷ Notarize 1 ∷ Leader 2 ∷ []
    )
    ≡
    Flag true ∷ Member None ∷ Work (Ready (context 1 0 0 0) (proposal 1 0 7)) ∷ Flag true ∷
    Vote (Some (proposal 1 0 7)) ∷ Member (Some 1) ∷ []
unfolding replies_of
not_taken_over_yet = refl

-- a replayed vote readies the handoff
replayed_handoff :
    replies_of
    (voter 1 1 0)
    (
    Restart 5 (voted_notarize 1 1 0 7 ∷ []) ∷ TryPropose ∷ []
    )
    ≡
    Done ∷ Asked (Some (Prepare (context 2 1 1 7))) ∷ []
unfolding replies_of
replayed_handoff = refl

-- a replayed vote is bound to the payload that its parent holds
replayed_binding :
    replies_of
    (voter 1 5 2)
    (
    Restart 5 (voted_notarize 1 1 0 7 ∷ voted_notarize 1 2 1 9 ∷ []) ∷ AddNotarization 1 0 8 ∷ SetProposal 3 2 4 ∷
    TryVerify ∷ []
    )
    ≡
    Done ∷ Added true (Some 0) ∷ Flag true ∷ Work Wait ∷ []
unfolding replies_of
replayed_binding = refl

-- and serves where its parent is certified so
replayed_on_the_same :
    replies_of
    (voter 1 5 2)
    (
    Restart 5 (voted_notarize 1 1 0 7 ∷ voted_notarize 1 2 1 9 ∷ []) ∷ AddNotarization 1 0 7 ∷ SetProposal 3 2 4 ∷
    TryVerify ∷ []
    )
    ≡
    Done ∷ Added true None ∷ Flag true ∷ Work (Ready (context 3 0 2 9) (proposal 3 2 4)) ∷ []
unfolding replies_of
replayed_on_the_same = refl

-- a replayed vote on a notarized parent is bound to nothing
replayed_unbound :
    replies_of
    (voter 1 5 2)
    (
    Restart 5 (notarized 1 0 7 ∷ voted_notarize 1 2 1 9 ∷ []) ∷ AddFinalization 1 0 8 10 ∷ SetProposal 3 2 4 ∷
    TryVerify ∷ []
    )
    ≡
    Done ∷ Added true (Some 0) ∷ Flag true ∷ Work (Ready (context 3 0 2 9) (proposal 3 2 4)) ∷ []
unfolding replies_of
replayed_unbound = refl

-- a nullify vote of an earlier view hinders no handoff
gave_up_before :
    replies_of
    (voter 2 1 0)
    (
    Nullify 1 ∷ AddNullification 1 5 ∷ SetProposal 2 0 9 ∷ TryVerify ∷ Verified 2 ∷ Notarize 2 ∷ TryPropose ∷ []
    )
    ≡
    NullifyVote (Some false) ∷ Flag true ∷ Flag true ∷ Work (Ready (context 2 1 0 0) (proposal 2 0 9)) ∷ Flag true ∷
    Vote (Some (proposal 2 0 9)) ∷ Asked (Some (Prepare (context 3 2 2 9))) ∷ []
unfolding replies_of
gave_up_before = refl

-- replayed votes offer what they did before the restart
replayed_chain :
    replies_of
    (voter 1 5 2)
    (
    Restart 5 (voted_notarize 1 1 0 7 ∷ voted_notarize 1 2 1 9 ∷ []) ∷ SetProposal 3 2 4 ∷ TryVerify ∷ Verified 3 ∷
    Notarize 3 ∷ []
    )
    ≡
    Done ∷ Flag true ∷ Work (Ready (context 3 0 2 9) (proposal 3 2 4)) ∷ Flag true ∷ Vote (Some (proposal 3 2 4)) ∷ []
unfolding replies_of
replayed_chain = refl

-- so a leader continues to build on them
replayed_own_chain :
    replies_of
    (voter 0 5 2)
    (
    Restart 5 (voted_notarize 0 1 0 7 ∷ voted_notarize 0 2 1 9 ∷ []) ∷ TryPropose ∷
    Proposed (context 3 0 2 9) 4 6 ∷ Notarize 3 ∷ []
    )
    ≡
    Done ∷ Asked (Some (Propose (context 3 0 2 9))) ∷ Flag true ∷ Vote (Some (proposal 3 2 4)) ∷ []
unfolding replies_of
replayed_own_chain = refl

-- a handoff is abandoned once this member votes to nullify the current view
given_up_by_a_vote :
    replies_of
    (voter 1 1 0)
    (
    SetProposal 1 0 7 ∷ TryVerify ∷ Verified 1 ∷ Notarize 1 ∷ TryPropose ∷ Abandonment (context 2 1 1 7) ∷ Nullify 1 ∷
    Abandonment (context 2 1 1 7) ∷ []
    )
    ≡
    Flag true ∷ Work (Ready (context 1 0 0 0) (proposal 1 0 7)) ∷ Flag true ∷ Vote (Some (proposal 1 0 7)) ∷
    Asked (Some (Prepare (context 2 1 1 7))) ∷ Abandoned None ∷ NullifyVote (Some false) ∷
    Abandoned (Some ParentNullify) ∷ []
unfolding replies_of
given_up_by_a_vote = refl

-- and once its parent is certified false
given_up_by_a_verdict :
    replies_of
    (voter 1 1 0)
    (
    SetProposal 1 0 7 ∷ TryVerify ∷ Verified 1 ∷ Notarize 1 ∷ TryPropose ∷ AddNotarization 1 0 7 ∷
    Abandonment (context 2 1 1 7) ∷ Certified 1 false 10 ∷ Abandonment (context 2 1 1 7) ∷ []
    )
    ≡
    Flag true ∷ Work (Ready (context 1 0 0 0) (proposal 1 0 7)) ∷ Flag true ∷ Vote (Some (proposal 1 0 7)) ∷
    Asked (Some (Prepare (context 2 1 1 7))) ∷ Added true None ∷ Abandoned None ∷ Judged (Some (proposal 1 0 7)) ∷
    Abandoned (Some AncestryInvalidated) ∷ []
unfolding replies_of
given_up_by_a_verdict = refl

-- a handoff that was released is asked for again, on the same parent
handoff_asked_again :
    replies_of
    (voter 1 1 0)
    (
    SetProposal 1 0 7 ∷ TryVerify ∷ Verified 1 ∷ Notarize 1 ∷ TryPropose ∷ Supersede (context 2 1 1 7) ∷ Release 2 ∷
    TryPropose ∷ []
    )
    ≡
    Flag true ∷ Work (Ready (context 1 0 0 0) (proposal 1 0 7)) ∷ Flag true ∷ Vote (Some (proposal 1 0 7)) ∷
    Asked (Some (Prepare (context 2 1 1 7))) ∷ Flag false ∷ Done ∷ Asked (Some (Prepare (context 2 1 1 7))) ∷ []
unfolding replies_of
handoff_asked_again = refl

-- an answer keeps a binding that matches only since this member leads, and the vote is cast
leaders_binding_goes_on :
    replies_of
    (voter 1 1 0)
    (
    SetProposal 1 0 7 ∷ TryVerify ∷ Verified 1 ∷ Notarize 1 ∷ TryPropose ∷ Proposed (context 2 1 1 7) 8 3 ∷ Verified 2 ∷
    Rejected 2 InvalidProposal 4 ∷ Notarize 2 ∷ []
    )
    ≡
    Flag true ∷ Work (Ready (context 1 0 0 0) (proposal 1 0 7)) ∷ Flag true ∷ Vote (Some (proposal 1 0 7)) ∷
    Asked (Some (Prepare (context 2 1 1 7))) ∷ Flag true ∷ Flag false ∷ Done ∷ Vote (Some (proposal 2 1 8)) ∷ []
unfolding replies_of
leaders_binding_goes_on = refl

-- once the term before is nullified it matches no more
leaders_binding_given_up :
    replies_of
    (voter 1 1 0)
    (
    SetProposal 1 0 7 ∷ TryVerify ∷ Verified 1 ∷ Notarize 1 ∷ TryPropose ∷ Proposed (context 2 1 1 7) 8 3 ∷
    AddNullification 1 10 ∷ Notarize 2 ∷ []
    )
    ≡
    Flag true ∷ Work (Ready (context 1 0 0 0) (proposal 1 0 7)) ∷ Flag true ∷ Vote (Some (proposal 1 0 7)) ∷
    Asked (Some (Prepare (context 2 1 1 7))) ∷ Flag true ∷ Flag true ∷ Vote None ∷ []
unfolding replies_of
leaders_binding_given_up = refl

-- the binding alone holds that vote back: an answer takes it away
leaders_binding_taken_away :
    replies_of
    (voter 1 1 0)
    (
    SetProposal 1 0 7 ∷ TryVerify ∷ Verified 1 ∷ Notarize 1 ∷ TryPropose ∷ Proposed (context 2 1 1 7) 8 3 ∷
    AddNullification 1 10 ∷ Notarize 2 ∷ Verified 2 ∷ Notarize 2 ∷ []
    )
    ≡
    Flag true ∷ Work (Ready (context 1 0 0 0) (proposal 1 0 7)) ∷ Flag true ∷ Vote (Some (proposal 1 0 7)) ∷
    Asked (Some (Prepare (context 2 1 1 7))) ∷ Flag true ∷ Flag true ∷ Vote None ∷ Flag false ∷
    Vote (Some (proposal 2 1 8)) ∷ []
unfolding replies_of
leaders_binding_taken_away = refl

-- a request whose parent fell away is not superseded while no other parent can be built on
superseded_by_nothing :
    replies_of
    (voter 0 5 1)
    (
    TryPropose ∷ Proposed (context 1 0 0 0) 7 3 ∷ Notarize 1 ∷ TryPropose ∷ SetProposal 1 0 8 ∷
    Abandonment (context 2 0 1 7) ∷ Supersede (context 2 0 1 7) ∷ AddNotarization 1 0 8 ∷
    Supersede (context 2 0 1 7) ∷ []
    )
    ≡
    Asked (Some (Propose (context 1 0 0 0))) ∷ Flag true ∷ Vote (Some (proposal 1 0 7)) ∷
    Asked (Some (Propose (context 2 0 1 7))) ∷ Flag false ∷ Abandoned (Some AncestryInvalidated) ∷ Flag false ∷
    Added true (Some 0) ∷ Flag true ∷ []
unfolding replies_of
superseded_by_nothing = refl
