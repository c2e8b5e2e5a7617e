-- Parents, proposing, verifying, and the notarize vote outside the window.
use Rattle.std.specs.Prelude.{◌≡◌, true, false, [], ◌∷◌, Some, None}
use Rattle.std.proofs.Common.{refl}
use Rattle.simplex_types.specs.declared.reasons.Kind.TheVariants.{Nullification, Notarization}
use Rattle.simplex_types.specs.declared.reasons.TimeoutReason.TheVariants.{CertificationTimeout, InvalidProposal}
use Rattle.simplex_voter.specs.declared.voter.propose.ProposalRequest.TheVariants.{Propose}
use Rattle.simplex_voter.specs.declared.voter.verify.Verify.TheVariants.{Ready, Resolve, Wait}
use Rattle.laws_voter.proofs.Examples.Scripts.{replies_of, voter, proposal, context, nullified, verdict}
use Rattle.laws_voter.proofs.Examples.Scripts.Call.{AddNotarization, AddNullification, AddFinalization, SetProposal, TryPropose, Proposed, Supersede, Abandonment, Release, TryVerify, Verified, Rejected, Certified, Notarize, Nullify, NextTimeout, Prune, Replayed, Elapsed}
use Rattle.laws_voter.proofs.Examples.Scripts.Reply.{Done, Flag, Added, Asked, Abandoned, Work, Judged, Vote, NullifyVote, Timeout, Views, Since}

-- a proposal is verified once, voted for once, and abandoned for the term after a nullification
verified_and_voted :
    replies_of
    (voter 1 1 0)
    (
    SetProposal 1 0 7 ∷ TryVerify ∷ TryVerify ∷ Verified 1 ∷ Notarize 1 ∷ Notarize 1 ∷ AddNullification 1 10 ∷
    TryPropose ∷ TryPropose ∷ Proposed (context 2 1 0 0) 8 12 ∷ Notarize 2 ∷ []
    )
    ≡
    Flag true ∷ Work (Ready (context 1 0 0 0) (proposal 1 0 7)) ∷ Work Wait ∷ Flag true ∷
    Vote (Some (proposal 1 0 7)) ∷ Vote None ∷ Flag true ∷ Asked (Some (Propose (context 2 1 0 0))) ∷ Asked None ∷
    Flag true ∷ Vote (Some (proposal 2 0 8)) ∷ []
unfolding replies_of
verified_and_voted = refl

-- the first view of a gap is asked for once, and closed
gap_asked_once :
    replies_of
    (voter 0 1 0)
    (
    AddNullification 2 10 ∷ SetProposal 3 0 7 ∷ TryVerify ∷ TryVerify ∷ AddNullification 1 11 ∷ TryVerify ∷ []
    )
    ≡
    Flag true ∷ Flag true ∷ Work (Resolve 3 1 Nullification 2) ∷ Work Wait ∷ Flag true ∷
    Work (Ready (context 3 2 0 0) (proposal 3 0 7)) ∷ []
unfolding replies_of
gap_asked_once = refl

-- outside the window a notarized parent has to be certified, and its notarization is asked for
uncertified_parent :
    replies_of
    (voter 0 1 0)
    (
    AddNotarization 1 0 7 ∷ AddNullification 2 10 ∷ SetProposal 3 1 8 ∷ TryVerify ∷ Certified 1 true 11 ∷
    TryVerify ∷ []
    )
    ≡
    Added true None ∷ Flag true ∷ Flag true ∷ Work (Resolve 3 1 Notarization 2) ∷ Judged (Some (proposal 1 0 7)) ∷
    Work (Ready (context 3 2 1 7) (proposal 3 1 8)) ∷ []
unfolding replies_of
uncertified_parent = refl

-- a view that was pruned is voted for no more
pruned_view :
    replies_of
    (voter 1 1 0)
    (
    SetProposal 1 0 7 ∷ TryVerify ∷ Verified 1 ∷ AddFinalization 20 19 9 10 ∷ Prune ∷ Notarize 1 ∷ []
    )
    ≡
    Flag true ∷ Work (Ready (context 1 0 0 0) (proposal 1 0 7)) ∷ Flag true ∷ Added true None ∷ Views (1 ∷ []) ∷
    Vote None ∷ []
unfolding replies_of
pruned_view = refl

-- a nullification covers nothing below it
covers_upward :
    replies_of
    (voter 0 5 0)
    (
    AddNullification 3 10 ∷ SetProposal 6 0 7 ∷ TryVerify ∷ AddNullification 1 11 ∷ TryVerify ∷ []
    )
    ≡
    Flag true ∷ Flag true ∷ Work (Resolve 6 1 Nullification 1) ∷ Flag true ∷
    Work (Ready (context 6 1 0 0) (proposal 6 0 7)) ∷ []
unfolding replies_of
covers_upward = refl

-- a view that was asked for already doesn't end the scan
asks_go_on :
    replies_of
    (voter 0 1 0)
    (
    AddNullification 2 10 ∷ SetProposal 3 0 7 ∷ AddNotarization 3 0 7 ∷ SetProposal 4 3 8 ∷ TryVerify ∷ TryVerify ∷
    TryVerify ∷ []
    )
    ≡
    Flag true ∷ Flag true ∷ Added true None ∷ Flag true ∷ Work (Resolve 3 1 Nullification 2) ∷
    Work (Resolve 4 3 Notarization 3) ∷ Work Wait ∷ []
unfolding replies_of
asks_go_on = refl

-- a gap of a million views
long_gap :
    replies_of
    (voter 1 1 0)
    (
    AddNullification 1000000 10 ∷ SetProposal 1000001 0 7 ∷ TryVerify ∷ []
    )
    ≡
    Flag true ∷ Flag true ∷ Work (Resolve 1000001 1 Nullification 0) ∷ []
unfolding replies_of
long_gap = refl

-- a parent under the last finalized view is invalid for good
under_finalized :
    replies_of
    (voter 0 1 0)
    (
    AddFinalization 2 1 9 10 ∷ SetProposal 3 1 7 ∷ TryVerify ∷ NextTimeout 20 ∷ []
    )
    ≡
    Added true None ∷ Flag true ∷ Work Wait ∷ Timeout (Some (10, InvalidProposal)) ∷ []
unfolding replies_of
under_finalized = refl

-- a marked proposal far ahead is not voted for
admitted_first :
    replies_of
    (voter 0 1 0)
    (
    SetProposal 3 0 7 ∷ Verified 3 ∷ Notarize 3 ∷ []
    )
    ≡
    Flag true ∷ Flag true ∷ Vote None ∷ []
unfolding replies_of
admitted_first = refl

-- a rejected proposal times the view out, once
rejected :
    replies_of
    (voter 1 1 0)
    (
    SetProposal 1 0 7 ∷ TryVerify ∷ Rejected 1 InvalidProposal 40 ∷ NextTimeout 50 ∷ Notarize 1 ∷ []
    )
    ≡
    Flag true ∷ Work (Ready (context 1 0 0 0) (proposal 1 0 7)) ∷ Done ∷ Timeout (Some (40, InvalidProposal)) ∷
    Vote None ∷ []
unfolding replies_of
rejected = refl

-- a proposal is not marked once this member voted to nullify the view
verified_after_nullify :
    replies_of
    (voter 1 1 0)
    (
    SetProposal 1 0 7 ∷ TryVerify ∷ Nullify 1 ∷ Verified 1 ∷ TryVerify ∷ []
    )
    ≡
    Flag true ∷ Work (Ready (context 1 0 0 0) (proposal 1 0 7)) ∷ NullifyVote (Some false) ∷ Flag false ∷ Work Wait ∷
    []
unfolding replies_of
verified_after_nullify = refl

-- what was built on another parent is not recorded
other_capture :
    replies_of
    (voter 1 1 0)
    (
    AddNullification 1 10 ∷ TryPropose ∷ Proposed (context 2 1 1 0) 8 12 ∷ Proposed (context 2 1 0 5) 8 12 ∷
    Proposed (context 3 1 0 0) 8 12 ∷ Proposed (context 2 1 0 0) 8 13 ∷ Elapsed 2 33 ∷
    Proposed (context 2 1 0 0) 9 14 ∷ Notarize 2 ∷ []
    )
    ≡
    Flag true ∷ Asked (Some (Propose (context 2 1 0 0))) ∷ Flag false ∷ Flag false ∷ Flag false ∷ Flag true ∷
    Since (Some 20) (Some 23) ∷ Flag false ∷ Vote (Some (proposal 2 0 8)) ∷ []
unfolding replies_of
other_capture = refl

-- the parent is the highest certified view below
lower_certified_parent :
    replies_of
    (voter 2 1 0)
    (
    AddNotarization 1 0 7 ∷ Certified 1 true 10 ∷ AddNullification 2 11 ∷ TryPropose ∷ []
    )
    ≡
    Added true None ∷ Judged (Some (proposal 1 0 7)) ∷ Flag true ∷ Asked (Some (Propose (context 3 2 1 7))) ∷ []
unfolding replies_of
lower_certified_parent = refl

-- with a gap above the highest certified view nothing is built
certified_parent_gap :
    replies_of
    (voter 2 1 0)
    (
    AddNotarization 1 0 7 ∷ AddNotarization 2 1 9 ∷ Certified 2 true 10 ∷ TryPropose ∷ AddNullification 5 11 ∷
    TryPropose ∷ []
    )
    ≡
    Added true None ∷ Added true None ∷ Judged (Some (proposal 2 1 9)) ∷ Asked (Some (Propose (context 3 2 2 9))) ∷
    Flag true ∷ Asked None ∷ []
unfolding replies_of
certified_parent_gap = refl

-- a released request is asked for again, and superseded only by another parent
released :
    replies_of
    (voter 1 1 0)
    (
    AddNullification 1 10 ∷ TryPropose ∷ Supersede (context 2 1 0 0) ∷ Abandonment (context 2 1 0 0) ∷ TryPropose ∷
    Release 2 ∷ TryPropose ∷ []
    )
    ≡
    Flag true ∷ Asked (Some (Propose (context 2 1 0 0))) ∷ Flag false ∷ Abandoned None ∷ Asked None ∷ Done ∷
    Asked (Some (Propose (context 2 1 0 0))) ∷ []
unfolding replies_of
released = refl

-- the next view of a gap is asked for once the first is covered
next_gap :
    replies_of
    (voter 0 1 0)
    (
    AddNullification 3 5 ∷ SetProposal 4 0 7 ∷ TryVerify ∷ AddNullification 1 6 ∷ TryVerify ∷ TryVerify ∷
    AddNullification 2 7 ∷ TryVerify ∷ []
    )
    ≡
    Flag true ∷ Flag true ∷ Work (Resolve 4 1 Nullification 3) ∷ Flag true ∷ Work (Resolve 4 2 Nullification 3) ∷
    Work Wait ∷ Flag true ∷ Work (Ready (context 4 3 0 0) (proposal 4 0 7)) ∷ []
unfolding replies_of
next_gap = refl

-- the scan continues past a proposal that is invalid
past_invalid :
    replies_of
    (voter 3 1 0)
    (
    AddNotarization 1 1 7 ∷ Replayed (nullified 1) ∷ SetProposal 2 0 9 ∷ TryVerify ∷ TryVerify ∷ NextTimeout 50 ∷ []
    )
    ≡
    Added true None ∷ Done ∷ Flag true ∷ Work (Ready (context 2 1 0 0) (proposal 2 0 9)) ∷ Work Wait ∷
    Timeout (Some (0, InvalidProposal)) ∷ []
unfolding replies_of
past_invalid = refl

-- a proposal that is not admitted waits
not_admitted_yet :
    replies_of
    (voter 1 5 0)
    (
    AddNotarization 1 0 7 ∷ SetProposal 2 1 9 ∷ TryVerify ∷ TryVerify ∷ []
    )
    ≡
    Added true None ∷ Flag true ∷ Work (Ready (context 1 0 0 0) (proposal 1 0 7)) ∷ Work Wait ∷ []
unfolding replies_of
not_admitted_yet = refl

-- nor is anything built there
not_led_yet :
    replies_of
    (voter 0 5 0)
    (
    AddNotarization 1 0 7 ∷ Replayed (verdict 1 true) ∷ TryPropose ∷ []
    )
    ≡
    Added true None ∷ Done ∷ Asked None ∷ []
unfolding replies_of
not_led_yet = refl

-- nothing is built in a view that is passed
passed_view :
    replies_of
    (voter 0 1 0)
    (
    AddNullification 1 5 ∷ TryPropose ∷ []
    )
    ≡
    Flag true ∷ Asked None ∷ []
unfolding replies_of
passed_view = refl

-- a rejection of a proposal that was replaced does not time the view out
rejected_replaced :
    replies_of
    (voter 1 1 0)
    (
    SetProposal 1 0 7 ∷ TryVerify ∷ AddNotarization 1 0 8 ∷ Rejected 1 InvalidProposal 40 ∷ NextTimeout 50 ∷ []
    )
    ≡
    Flag true ∷ Work (Ready (context 1 0 0 0) (proposal 1 0 7)) ∷ Added true (Some 0) ∷ Done ∷
    Timeout (Some (2000, CertificationTimeout)) ∷ []
unfolding replies_of
rejected_replaced = refl

-- a proposal of a view that this member voted to nullify is not held
given_up_slot :
    replies_of
    (voter 1 1 0)
    (
    Nullify 1 ∷ SetProposal 1 0 7 ∷ AddNotarization 1 0 8 ∷ []
    )
    ≡
    NullifyVote (Some false) ∷ Flag false ∷ Added true None ∷ []
unfolding replies_of
given_up_slot = refl

-- a captured parent may be built on while it is allowed, though another is preferred
lower_parent_stands :
    replies_of
    (voter 1 1 0)
    (
    AddNotarization 1 0 7 ∷ AddNullification 1 10 ∷ TryPropose ∷ Certified 1 true 11 ∷ Supersede (context 2 1 0 0) ∷
    Proposed (context 2 1 0 0) 8 12 ∷ []
    )
    ≡
    Added true None ∷ Flag true ∷ Asked (Some (Propose (context 2 1 0 0))) ∷ Judged (Some (proposal 1 0 7)) ∷
    Flag false ∷ Flag true ∷ []
unfolding replies_of
lower_parent_stands = refl

-- a bound parent under a view that was finalized since matches no more, whatever its payload
bound_under_finalized :
    replies_of
    (voter 3 1 0)
    (
    AddNotarization 1 0 7 ∷ Certified 1 true 5 ∷ AddNullification 2 6 ∷ SetProposal 3 1 8 ∷ TryVerify ∷
    AddFinalization 2 1 5 7 ∷ Verified 3 ∷ []
    )
    ≡
    Added true None ∷ Judged (Some (proposal 1 0 7)) ∷ Flag true ∷ Flag true ∷
    Work (Ready (context 3 2 1 7) (proposal 3 1 8)) ∷ Added true None ∷ Flag false ∷ []
unfolding replies_of
bound_under_finalized = refl
