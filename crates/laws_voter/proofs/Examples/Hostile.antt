-- Leaders who propose twice, certificates far ahead, and view 0.
use Rattle.std.specs.Prelude.{◌≡◌, true, false, [], ◌∷◌, Some, None}
use Rattle.std.proofs.Common.{refl}
use Rattle.simplex_types.specs.declared.types.fault.Fault.TheVariants.{ViewTooLarge}
use Rattle.simplex_types.specs.declared.reasons.TimeoutReason.TheVariants.{Retry}
use Rattle.simplex_voter.specs.declared.voter.propose.ProposalRequest.TheVariants.{Propose}
use Rattle.simplex_voter.specs.declared.voter.verify.Verify.TheVariants.{Ready, Wait}
use Rattle.laws_voter.proofs.Examples.Scripts.{replies_of, voter, proposal, context, notarized, verdict, voted_finalize}
use Rattle.laws_voter.proofs.Examples.Scripts.Call.{AddNotarization, AddNullification, AddFinalization, SetProposal, TryPropose, Proposed, Release, TryVerify, Verified, Candidates, Certified, Notarize, Nullify, Finalize, BroadcastFinalization, Trigger, Prune, View, Restart}
use Rattle.laws_voter.proofs.Examples.Scripts.Reply.{Done, Flag, Added, Asked, Work, Offered, Judged, Vote, NullifyVote, Certificate, Views, Now, Refused, NotAllowed}

-- a leader who proposes twice is not voted for; the notarized proposal is certified, and finalized after a restart
proposed_twice :
    replies_of
    (voter 1 1 0)
    (
    SetProposal 1 0 7 ∷ SetProposal 1 0 8 ∷ TryVerify ∷ Verified 1 ∷ Notarize 1 ∷ AddNotarization 1 0 8 ∷
    Candidates ∷ Certified 1 true 10 ∷ Finalize 1 ∷ TryPropose ∷
    Restart 20 (notarized 1 0 8 ∷ verdict 1 true ∷ []) ∷ Finalize 1 ∷
    Restart 30 (notarized 1 0 8 ∷ verdict 1 true ∷ voted_finalize 1 1 0 8 ∷ []) ∷ Finalize 1 ∷ []
    )
    ≡
    Flag true ∷ Flag false ∷ Work (Ready (context 1 0 0 0) (proposal 1 0 7)) ∷ Flag false ∷ Vote None ∷
    Added true (Some 0) ∷ Offered (proposal 1 0 8 ∷ []) [] ∷ Judged (Some (proposal 1 0 8)) ∷ Vote None ∷
    Asked (Some (Propose (context 2 1 1 8))) ∷ Done ∷ Vote (Some (proposal 1 0 8)) ∷ Done ∷ Vote None ∷ []
unfolding replies_of
proposed_twice = refl

-- after a restart a proposal has to come again
restarted_verification :
    replies_of
    (voter 1 1 0)
    (
    SetProposal 1 0 7 ∷ TryVerify ∷ Restart 5 [] ∷ TryVerify ∷ []
    )
    ≡
    Flag true ∷ Work (Ready (context 1 0 0 0) (proposal 1 0 7)) ∷ Done ∷ Work Wait ∷ []
unfolding replies_of
restarted_verification = refl

-- the largest view of a certificate
largest_view :
    replies_of
    (voter 0 1 0)
    (
    AddFinalization 9223372036854775807 5 9 10 ∷ View ∷ AddNotarization 9223372036854775808 1 1 ∷ Prune ∷
    Nullify 9223372036854775808 ∷ []
    )
    ≡
    Added true None ∷ Now 9223372036854775808 9223372036854775807 9223372036854775797 ∷ Refused ViewTooLarge ∷
    Views (1 ∷ []) ∷ NullifyVote (Some false) ∷ []
unfolding replies_of
largest_view = refl

-- one view above the largest is proposed in
proposed_above_largest :
    replies_of
    (voter 3 1 0)
    (
    AddFinalization 9223372036854775807 5 9 10 ∷ TryPropose ∷
    Proposed (context 9223372036854775808 3 9223372036854775807 9) 1 11 ∷ Notarize 9223372036854775808 ∷ []
    )
    ≡
    Added true None ∷ Asked (Some (Propose (context 9223372036854775808 3 9223372036854775807 9))) ∷ Flag true ∷
    Vote (Some (proposal 9223372036854775808 9223372036854775807 1)) ∷ []
unfolding replies_of
proposed_above_largest = refl

-- view 0
zeros :
    replies_of
    (voter 0 1 0)
    (
    AddNullification 0 1 ∷ AddFinalization 0 0 7 1 ∷ SetProposal 0 0 7 ∷ Release 0 ∷ Certified 0 true 1 ∷
    Notarize 0 ∷ Nullify 0 ∷ Finalize 0 ∷ BroadcastFinalization 0 ∷ Trigger 0 Retry 1 ∷ View ∷ []
    )
    ≡
    NotAllowed ∷ NotAllowed ∷ NotAllowed ∷ Done ∷ Judged None ∷ Vote None ∷ NullifyVote None ∷ Vote None ∷
    Certificate None ∷ Done ∷ Now 1 0 0 ∷ []
unfolding replies_of
zeros = refl

-- a first proposal that comes again hides no second one, so that no vote finalizes it
hides_no_second :
    replies_of
    (voter 1 1 0)
    (
    SetProposal 1 0 7 ∷ SetProposal 1 0 8 ∷ SetProposal 1 0 7 ∷ AddNotarization 1 0 7 ∷ Certified 1 true 5 ∷
    Finalize 1 ∷ []
    )
    ≡
    Flag true ∷ Flag false ∷ Flag false ∷ Added true None ∷ Judged (Some (proposal 1 0 7)) ∷ Vote None ∷ []
unfolding replies_of
hides_no_second = refl
