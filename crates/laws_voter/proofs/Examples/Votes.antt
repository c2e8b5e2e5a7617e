-- One view a term: votes and restarts.
use Rattle.std.specs.Prelude.{◌≡◌, true, false, [], ◌∷◌, Some, None}
use Rattle.std.proofs.Common.{refl}
use Rattle.simplex_types.specs.declared.types.fault.Fault.TheVariants.{Failed, TimeOverflow}
use Rattle.simplex_voter.specs.declared.voter.propose.ProposalRequest.TheVariants.{Prepare}
use Rattle.simplex_voter.specs.declared.voter.verify.Verify.TheVariants.{Ready, Wait}
use Rattle.laws_voter.proofs.Examples.Scripts.{replies_of, voter, keyless, proposal, context, notarized, verdict, voted_notarize, voted_nullify}
use Rattle.laws_voter.proofs.Examples.Scripts.Call.{AddNotarization, AddNullification, AddFinalization, SetProposal, TryPropose, TryVerify, Verified, Certified, Notarize, Nullify, Finalize, NextTimeout, Replayed, View, VotedNullify, Restart}
use Rattle.laws_voter.proofs.Examples.Scripts.Reply.{Done, Flag, Added, Asked, Work, Judged, Vote, NullifyVote, Now, Refused, NotAllowed}

-- a verdict where nothing is known says nothing; one without its notarization is not allowed, nor is view 0
untracked :
    replies_of
    (voter 0 1 0)
    (
    Certified 9 true 1 ∷ Certified 1 true 1 ∷ AddNotarization 0 0 7 ∷ []
    )
    ≡
    Judged None ∷ NotAllowed ∷ NotAllowed ∷ []
unfolding replies_of
untracked = refl

-- a deadline that passes 64 bits refuses the verdict and changes nothing
late_verdict :
    replies_of
    (voter 0 1 0)
    (
    AddNotarization 1 0 7 ∷ Certified 1 true 18446744073709551615 ∷ View ∷ []
    )
    ≡
    Added true None ∷ Refused TimeOverflow ∷ Now 1 0 0 ∷ []
unfolding replies_of
late_verdict = refl

-- the same verdict again is taken, another one is not allowed
repeated_verdict :
    replies_of
    (voter 0 1 0)
    (
    AddNotarization 1 0 7 ∷ Certified 1 true 10 ∷ Certified 1 true 11 ∷ Certified 1 false 12 ∷ []
    )
    ≡
    Added true None ∷ Judged (Some (proposal 1 0 7)) ∷ Judged (Some (proposal 1 0 7)) ∷ NotAllowed ∷ []
unfolding replies_of
repeated_verdict = refl

-- a finalize vote asks nothing of a term start's parent
any_parent :
    replies_of
    (voter 0 1 0)
    (
    AddNotarization 1 5 7 ∷ Certified 1 true 10 ∷ Finalize 1 ∷ []
    )
    ≡
    Added true None ∷ Judged (Some (proposal 1 5 7)) ∷ Vote (Some (proposal 1 5 7)) ∷ []
unfolding replies_of
any_parent = refl

-- a nullify vote keeps this member from finalizing the view, also after a restart
nullify_before_finalize :
    replies_of
    (voter 0 1 0)
    (
    Nullify 1 ∷ Nullify 1 ∷ AddNotarization 1 0 7 ∷ Certified 1 true 10 ∷ Finalize 1 ∷
    Restart 20 (voted_nullify 0 1 ∷ notarized 1 0 7 ∷ verdict 1 true ∷ []) ∷ Finalize 1 ∷ Nullify 1 ∷ []
    )
    ≡
    NullifyVote (Some false) ∷ NullifyVote (Some true) ∷ Added true None ∷ Judged (Some (proposal 1 0 7)) ∷
    Vote None ∷ Done ∷ Vote None ∷ NullifyVote None ∷ []
unfolding replies_of
nullify_before_finalize = refl

-- a view that was left is not voted to nullify
nullify_of_a_past_view :
    replies_of
    (voter 0 1 0)
    (
    Nullify 1 ∷ Nullify 1 ∷ AddNotarization 1 0 7 ∷ Certified 1 true 10 ∷ View ∷ Finalize 1 ∷
    Restart 20 (voted_nullify 0 1 ∷ notarized 1 0 7 ∷ verdict 1 true ∷ []) ∷ Finalize 1 ∷ Nullify 1 ∷ []
    )
    ≡
    NullifyVote (Some false) ∷ NullifyVote (Some true) ∷ Added true None ∷ Judged (Some (proposal 1 0 7)) ∷
    Now 2 0 0 ∷ Vote None ∷ Done ∷ Vote None ∷ NullifyVote None ∷ []
unfolding replies_of
nullify_of_a_past_view = refl

-- after a restart that lost the certificates the vote is still decided, and is a repeat
lost_certificates :
    replies_of
    (voter 0 1 0)
    (
    Nullify 1 ∷ Nullify 1 ∷ AddNotarization 1 0 7 ∷ Certified 1 true 10 ∷ Restart 20 (voted_nullify 0 1 ∷ []) ∷
    View ∷ Nullify 1 ∷ []
    )
    ≡
    NullifyVote (Some false) ∷ NullifyVote (Some true) ∷ Added true None ∷ Judged (Some (proposal 1 0 7)) ∷ Done ∷
    Now 1 0 0 ∷ NullifyVote (Some true) ∷ []
unfolding replies_of
lost_certificates = refl

-- a restart remembers the notarize vote, and readies the handoff again
notarized_once :
    replies_of
    (voter 1 1 0)
    (
    SetProposal 1 0 7 ∷ TryVerify ∷ Verified 1 ∷ Notarize 1 ∷ Restart 5 (voted_notarize 1 1 0 7 ∷ []) ∷
    SetProposal 1 0 7 ∷ TryVerify ∷ Notarize 1 ∷ TryPropose ∷ []
    )
    ≡
    Flag true ∷ Work (Ready (context 1 0 0 0) (proposal 1 0 7)) ∷ Flag true ∷ Vote (Some (proposal 1 0 7)) ∷ Done ∷
    Flag false ∷ Work Wait ∷ Vote None ∷ Asked (Some (Prepare (context 2 1 1 7))) ∷ []
unfolding replies_of
notarized_once = refl

-- a nullify vote gates no other term
other_terms_gate_nothing :
    replies_of
    (voter 0 1 0)
    (
    Nullify 1 ∷ AddNullification 1 5 ∷ AddNotarization 2 0 9 ∷ Certified 2 true 6 ∷ Finalize 2 ∷ []
    )
    ≡
    NullifyVote (Some false) ∷ Flag true ∷ Added true None ∷ Judged (Some (proposal 2 0 9)) ∷
    Vote (Some (proposal 2 0 9)) ∷ []
unfolding replies_of
other_terms_gate_nothing = refl

-- a view below the last finalized one is not finalized again
below_finalized :
    replies_of
    (voter 0 1 0)
    (
    AddNotarization 1 0 7 ∷ Certified 1 true 5 ∷ AddFinalization 2 1 9 6 ∷ Finalize 1 ∷ []
    )
    ≡
    Added true None ∷ Judged (Some (proposal 1 0 7)) ∷ Added true None ∷ Vote None ∷ []
unfolding replies_of
below_finalized = refl

-- a view far ahead is not voted for, though its verdict was replayed
verdict_far_ahead :
    replies_of
    (voter 0 1 0)
    (
    AddNotarization 5 4 7 ∷ Replayed (verdict 5 true) ∷ Finalize 5 ∷ Notarize 5 ∷ []
    )
    ≡
    Added true None ∷ Done ∷ Vote None ∷ Vote None ∷ []
unfolding replies_of
verdict_far_ahead = refl

-- a finalize vote without a key is decided and not returned
certified_without_key :
    replies_of
    (keyless 1 0)
    (
    AddNotarization 1 0 7 ∷ Certified 1 true 5 ∷ Finalize 1 ∷ Restart 6 (notarized 1 0 7 ∷ verdict 1 true ∷ []) ∷
    Nullify 2 ∷ []
    )
    ≡
    Added true None ∷ Judged (Some (proposal 1 0 7)) ∷ Vote None ∷ Done ∷ NullifyVote None ∷ []
unfolding replies_of
certified_without_key = refl

-- a failed state is asked for nothing
failed :
    replies_of
    (record (voter 0 1 0) { failed = true })
    (
    AddNotarization 1 0 7 ∷ AddNullification 9223372036854775808 18446744073709551615 ∷ Certified 1 true 5 ∷
    NextTimeout 5 ∷ []
    )
    ≡
    Refused Failed ∷ Refused Failed ∷ NotAllowed ∷ Refused Failed ∷ []
unfolding replies_of
failed = refl

-- a replayed nullify vote gates its term
replayed_nullify_gates :
    replies_of
    (voter 0 5 0)
    (
    Nullify 1 ∷ Restart 5 (voted_nullify 0 1 ∷ []) ∷ AddNotarization 1 0 7 ∷ Certified 1 true 10 ∷
    AddNotarization 2 1 9 ∷ Certified 2 true 11 ∷ Finalize 2 ∷ []
    )
    ≡
    NullifyVote (Some false) ∷ Done ∷ Added true None ∷ Judged (Some (proposal 1 0 7)) ∷ Added true None ∷
    Judged (Some (proposal 2 1 9)) ∷ Vote None ∷ []
unfolding replies_of
replayed_nullify_gates = refl

-- a finalize vote is cast once
finalized_once :
    replies_of
    (voter 0 1 0)
    (
    AddNotarization 1 0 7 ∷ Certified 1 true 5 ∷ Finalize 1 ∷ Finalize 1 ∷ []
    )
    ≡
    Added true None ∷ Judged (Some (proposal 1 0 7)) ∷ Vote (Some (proposal 1 0 7)) ∷ Vote None ∷ []
unfolding replies_of
finalized_once = refl

-- only a true verdict of a tracked view can be late
late_verdicts :
    replies_of
    (voter 0 1 0)
    (
    Certified 9 true 18446744073709551615 ∷ AddNotarization 1 0 7 ∷ Certified 1 false 18446744073709551615 ∷ []
    )
    ≡
    Judged None ∷ Added true None ∷ Judged (Some (proposal 1 0 7)) ∷ []
unfolding replies_of
late_verdicts = refl

-- without a key no vote is out
votes_without_key :
    replies_of
    (keyless 1 0)
    (
    Nullify 1 ∷ VotedNullify 1 ∷ AddNotarization 1 0 7 ∷ Certified 1 true 5 ∷ Finalize 1 ∷ []
    )
    ≡
    NullifyVote None ∷ Flag false ∷ Added true None ∷ Judged (Some (proposal 1 0 7)) ∷ Vote None ∷ []
unfolding replies_of
votes_without_key = refl
