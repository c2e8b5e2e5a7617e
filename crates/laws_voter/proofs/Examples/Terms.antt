-- Terms of any length, floors, certificates, pruning and the gate on finalize votes.
use Rattle.std.specs.Prelude.{◌≡◌, true, false, [], ◌∷◌, Some, None}
use Rattle.std.proofs.Common.{refl}
use Rattle.simplex_types.specs.Certificates.{Notarized, Nullified, Finalized}
use Rattle.simplex_types.specs.declared.types.fault.Fault.TheVariants.{TimeOverflow, ViewTooLarge}
use Rattle.simplex_types.specs.declared.reasons.Kind.TheVariants.{Nullification, Notarization}
use Rattle.simplex_voter.specs.declared.voter.verify.Verify.TheVariants.{Ready, Resolve, Wait}
use Rattle.laws_voter.proofs.Examples.Scripts.{replies_of, voter, above, proposal, context, certificate, nullification, notarized, nullified, finalized, verdict, voted_nullify, voted_finalize}
use Rattle.laws_voter.proofs.Examples.Scripts.Call.{AddNotarization, AddNullification, AddFinalization, SetProposal, TryVerify, Certified, Nullify, Finalize, BroadcastNotarization, BroadcastNullification, BroadcastFinalization, Best, Prune, Replayed, View, Leader, ParentCertified, VotedNullify, AdmitsVote, Restart}
use Rattle.laws_voter.proofs.Examples.Scripts.Reply.{Done, Flag, Added, Work, Judged, Vote, NullifyVote, Certificate, Views, Now, Member, Refused, NotAllowed}

-- a nullify vote holds back the finalize votes above it in its term until a finalization covers it
gated_until_finalized :
    replies_of
    (voter 0 5 0)
    (
    AddNullification 3 10 ∷ Best ∷ AddFinalization 2 1 9 12 ∷ View ∷ Nullify 6 ∷ AddNotarization 6 2 4 ∷
    Certified 6 true 13 ∷ Finalize 6 ∷ AddNotarization 7 6 5 ∷ Certified 7 true 14 ∷ Finalize 7 ∷
    AddFinalization 6 2 4 15 ∷ Finalize 7 ∷ BroadcastFinalization 6 ∷ BroadcastFinalization 6 ∷
    BroadcastNotarization 6 ∷ BroadcastNullification 3 ∷
    Restart 20 (finalized 2 1 9 ∷ nullified 3 ∷ voted_nullify 0 6 ∷ notarized 6 2 4 ∷ verdict 6 true ∷ finalized 6 2 4
    ∷ notarized 7 6 5 ∷ verdict 7 true ∷ voted_finalize 0 7 6 5 ∷ []) ∷
    View ∷ Nullify 6 ∷ []
    )
    ≡
    Flag true ∷ Certificate (Some (Nullified (nullification 3))) ∷ Added true None ∷ Now 6 2 0 ∷
    NullifyVote (Some false) ∷ Added true None ∷ Judged (Some (proposal 6 2 4)) ∷ Vote None ∷ Added true None ∷
    Judged (Some (proposal 7 6 5)) ∷ Vote None ∷ Added true None ∷ Vote (Some (proposal 7 6 5)) ∷
    Certificate (Some (Finalized (certificate 6 2 4))) ∷ Certificate None ∷
    Certificate (Some (Notarized (certificate 6 2 4))) ∷ Certificate (Some (Nullified (nullification 3))) ∷ Done ∷
    Now 8 6 0 ∷ NullifyVote None ∷ []
unfolding replies_of
gated_until_finalized = refl

-- a finalization of another proposal than the notarized one names the leader
replaced_proposal :
    replies_of
    (voter 1 1 0)
    (
    AddNotarization 1 0 7 ∷ AddFinalization 1 0 8 10 ∷ []
    )
    ≡
    Added true None ∷ Added true (Some 0) ∷ []
unfolding replies_of
replaced_proposal = refl

-- one with the same payload on another parent is another proposal
replaced_parent :
    replies_of
    (voter 1 1 0)
    (
    AddNotarization 1 0 7 ∷ AddFinalization 1 5 7 10 ∷ []
    )
    ≡
    Added true None ∷ Added true (Some 0) ∷ []
unfolding replies_of
replaced_parent = refl

-- a finalization at the nullified view opens the gate
healed_by_finalization :
    replies_of
    (voter 0 5 0)
    (
    Nullify 1 ∷ AddNotarization 1 0 7 ∷ AddNotarization 2 1 9 ∷ Certified 1 true 10 ∷ Certified 2 true 11 ∷
    Finalize 2 ∷ AddFinalization 1 0 7 12 ∷ Finalize 2 ∷ []
    )
    ≡
    NullifyVote (Some false) ∷ Added true None ∷ Added true None ∷ Judged (Some (proposal 1 0 7)) ∷
    Judged (Some (proposal 2 1 9)) ∷ Vote None ∷ Added true None ∷ Vote (Some (proposal 2 1 9)) ∷ []
unfolding replies_of
healed_by_finalization = refl

-- a view too large for a certificate is refused
too_large :
    replies_of
    (voter 0 1 0)
    (
    AddNullification 9223372036854775808 10 ∷ View ∷ []
    )
    ≡
    Refused ViewTooLarge ∷ Now 1 0 0 ∷ []
unfolding replies_of
too_large = refl

-- after a finalization far ahead the views below the floor may be pruned, and no certificate below is accepted
far_ahead :
    replies_of
    (voter 0 1 0)
    (
    AddFinalization 20 19 0 5 ∷ View ∷ Prune ∷ AddNullification 9 6 ∷ AddNullification 10 7 ∷ []
    )
    ≡
    Added true None ∷ Now 21 20 10 ∷ Views (1 ∷ []) ∷ NotAllowed ∷ Flag true ∷ []
unfolding replies_of
far_ahead = refl

-- the nullification of the term before helps others into a term's start
entry_certificate :
    replies_of
    (voter 0 5 0)
    (
    Best ∷ AddNullification 3 5 ∷ View ∷ Best ∷ []
    )
    ≡
    Certificate None ∷ Flag true ∷ Now 6 0 0 ∷ Certificate (Some (Nullified (nullification 3))) ∷ []
unfolding replies_of
entry_certificate = refl

-- pruning keeps the nullify votes above the last finalized view
votes_outlive_pruning :
    replies_of
    (voter 1 5 0)
    (
    AddNullification 2 10 ∷ SetProposal 6 0 7 ∷ TryVerify ∷ AddNotarization 6 0 7 ∷ Nullify 6 ∷
    Certified 6 true 11 ∷ Prune ∷ AddNotarization 7 6 8 ∷ Certified 7 true 12 ∷ Finalize 7 ∷ []
    )
    ≡
    Flag true ∷ Flag true ∷ Work Wait ∷ Added true None ∷ NullifyVote (Some false) ∷ Judged (Some (proposal 6 0 7)) ∷
    Views [] ∷ Added true None ∷ Judged (Some (proposal 7 6 8)) ∷ Vote None ∷ []
unfolding replies_of
votes_outlive_pruning = refl

-- a restart on a pruned record knows only what remained in it
pruned_record :
    replies_of
    (voter 0 1 0)
    (
    Nullify 1 ∷ AddFinalization 20 19 9 10 ∷ Restart 20 (finalized 20 19 9 ∷ []) ∷ View ∷ Nullify 1 ∷
    Restart 30 (finalized 20 19 9 ∷ []) ∷ View ∷ AddNullification 9 31 ∷ AddNullification 10 32 ∷
    Restart 40 (finalized 20 19 9 ∷ []) ∷ []
    )
    ≡
    NullifyVote (Some false) ∷ Added true None ∷ Done ∷ Now 21 20 10 ∷ NullifyVote None ∷ Done ∷ Now 21 20 10 ∷
    NotAllowed ∷ Flag true ∷ Done ∷ []
unfolding replies_of
pruned_record = refl

-- a finalize vote inside a term waits for the view before
unready_parent :
    replies_of
    (voter 0 5 0)
    (
    AddNotarization 2 1 9 ∷ Certified 2 true 10 ∷ Finalize 2 ∷ AddNotarization 1 0 7 ∷ Certified 1 true 11 ∷
    Finalize 2 ∷ []
    )
    ≡
    Added true None ∷ Judged (Some (proposal 2 1 9)) ∷ Vote None ∷ Added true None ∷ Judged (Some (proposal 1 0 7)) ∷
    Vote (Some (proposal 2 1 9)) ∷ []
unfolding replies_of
unready_parent = refl

-- the gate holds above the nullified view and not below it
gate_above_the_vote :
    replies_of
    (voter 0 5 0)
    (
    AddNotarization 1 0 7 ∷ Certified 1 true 10 ∷ Nullify 2 ∷ Finalize 1 ∷ AddNotarization 3 2 9 ∷
    Replayed (verdict 3 true) ∷ Finalize 3 ∷ []
    )
    ≡
    Added true None ∷ Judged (Some (proposal 1 0 7)) ∷ NullifyVote (Some false) ∷ Vote (Some (proposal 1 0 7)) ∷
    Added true None ∷ Done ∷ Vote None ∷ []
unfolding replies_of
gate_above_the_vote = refl

-- a certificate passed in again adds nothing, and the first stays
handed_in_again :
    replies_of
    (voter 1 1 0)
    (
    AddNotarization 1 0 7 ∷ AddNotarization 1 0 8 ∷ AddNullification 1 5 ∷ AddNullification 1 6 ∷
    AddFinalization 1 0 7 7 ∷ AddFinalization 1 0 8 8 ∷ BroadcastNotarization 1 ∷ []
    )
    ≡
    Added true None ∷ Added false None ∷ Flag true ∷ Flag false ∷ Added true None ∷ Added false None ∷
    Certificate (Some (Notarized (certificate 1 0 7))) ∷ []
unfolding replies_of
handed_in_again = refl

-- the finalization of the view before helps into a view, and else its notarization
entry_finalization :
    replies_of
    (voter 0 1 0)
    (
    AddNotarization 1 0 7 ∷ Certified 1 true 5 ∷ Best ∷ AddFinalization 1 0 7 6 ∷ Best ∷ []
    )
    ≡
    Added true None ∷ Judged (Some (proposal 1 0 7)) ∷ Certificate (Some (Notarized (certificate 1 0 7))) ∷
    Added true None ∷ Certificate (Some (Finalized (certificate 1 0 7))) ∷ []
unfolding replies_of
entry_finalization = refl

-- at a term's start its nullification comes before the notarization of the view before
entry_at_a_start :
    replies_of
    (voter 0 5 0)
    (
    AddNotarization 5 4 7 ∷ AddNullification 3 5 ∷ Best ∷ []
    )
    ≡
    Added true None ∷ Flag true ∷ Certificate (Some (Nullified (nullification 3))) ∷ []
unfolding replies_of
entry_at_a_start = refl

-- of several nullifications of a term the highest helps into the next one
highest_of_the_term :
    replies_of
    (voter 0 5 0)
    (
    AddNullification 2 10 ∷ AddNullification 4 11 ∷ Best ∷ []
    )
    ≡
    Flag true ∷ Flag true ∷ Certificate (Some (Nullified (nullification 4))) ∷ []
unfolding replies_of
highest_of_the_term = refl

-- above a finalized floor its certificate counts as already broadcast
floor :
    replies_of
    (above 0 20 19 9)
    (
    View ∷ Best ∷ BroadcastFinalization 20 ∷ AddFinalization 20 19 9 5 ∷ AddNullification 9 6 ∷
    ParentCertified 0 0 ∷ ParentCertified 20 9 ∷ Leader 21 ∷ []
    )
    ≡
    Now 21 20 10 ∷ Certificate (Some (Finalized (certificate 20 19 9))) ∷ Certificate None ∷ Added false None ∷
    NotAllowed ∷ Flag false ∷ Flag true ∷ Member (Some 0) ∷ []
unfolding replies_of
floor = refl

-- a nullification of an earlier term enters nothing, so its moment is not late
no_lower_entry :
    replies_of
    (voter 0 5 0)
    (
    AddNullification 3 10 ∷ AddNullification 2 18446744073709551615 ∷ View ∷ []
    )
    ≡
    Flag true ∷ Flag true ∷ Now 6 0 0 ∷ []
unfolding replies_of
no_lower_entry = refl

-- a deadline that passes 64 bits refuses a nullification; a view too large comes first
late_entry :
    replies_of
    (voter 0 5 0)
    (
    AddNullification 3 18446744073709550000 ∷ AddNullification 9223372036854775808 18446744073709550000 ∷
    AddNotarization 3 9223372036854775808 7 ∷ View ∷ []
    )
    ≡
    Refused TimeOverflow ∷ Refused ViewTooLarge ∷ Refused ViewTooLarge ∷ Now 1 0 0 ∷ []
unfolding replies_of
late_entry = refl

-- a replayed nullification covers, and is no certificate yet
replayed_nullification :
    replies_of
    (voter 0 1 0)
    (
    Replayed (nullified 2) ∷ SetProposal 3 1 7 ∷ BroadcastNullification 2 ∷ AddNullification 1 5 ∷ View ∷
    TryVerify ∷ AddNullification 2 6 ∷ View ∷ TryVerify ∷ []
    )
    ≡
    Done ∷ Flag true ∷ Certificate None ∷ Flag true ∷ Now 2 0 0 ∷ Work Wait ∷ Flag true ∷ Now 3 0 0 ∷
    Work (Resolve 3 1 Notarization 2) ∷ []
unfolding replies_of
replayed_nullification = refl

-- the leader of a view, and which votes are taken
known_member :
    replies_of
    (voter 0 5 0)
    (
    Leader 1 ∷ Leader 6 ∷ AddNullification 3 10 ∷ Leader 6 ∷ AdmitsVote 0 ∷ AdmitsVote 11 ∷ AdmitsVote 12 ∷
    VotedNullify 6 ∷ Nullify 6 ∷ VotedNullify 6 ∷ []
    )
    ≡
    Member (Some 0) ∷ Member None ∷ Flag true ∷ Member (Some 1) ∷ Flag false ∷ Flag true ∷ Flag false ∷ Flag false ∷
    NullifyVote (Some false) ∷ Flag true ∷ []
unfolding replies_of
known_member = refl

-- a replayed nullification closes a gap
replayed_covers :
    replies_of
    (voter 0 1 0)
    (
    AddNullification 2 10 ∷ SetProposal 3 0 7 ∷ TryVerify ∷ Replayed (nullified 1) ∷ TryVerify ∷ []
    )
    ≡
    Flag true ∷ Flag true ∷ Work (Resolve 3 1 Nullification 2) ∷ Done ∷
    Work (Ready (context 3 2 0 0) (proposal 3 0 7)) ∷ []
unfolding replies_of
replayed_covers = refl

-- an artifact that names a view too large is refused
replayed_too_large :
    replies_of
    (voter 0 1 0)
    (
    Replayed (nullified 9223372036854775808) ∷ Replayed (notarized 3 9223372036854775808 7) ∷
    Replayed (verdict 3 true) ∷ []
    )
    ≡
    Refused ViewTooLarge ∷ Refused ViewTooLarge ∷ Done ∷ []
unfolding replies_of
replayed_too_large = refl

-- a finalization below the last one lowers nothing
lower_finalization :
    replies_of
    (voter 0 1 0)
    (
    AddFinalization 5 4 7 10 ∷ AddFinalization 3 2 4 11 ∷ View ∷ []
    )
    ≡
    Added true None ∷ Added true None ∷ Now 6 5 0 ∷ []
unfolding replies_of
lower_finalization = refl

-- the finalization of the view before comes before a nullification
finalization_first :
    replies_of
    (voter 0 5 0)
    (
    AddFinalization 5 4 7 10 ∷ AddNullification 3 11 ∷ Best ∷ []
    )
    ≡
    Added true None ∷ Flag true ∷ Certificate (Some (Finalized (certificate 5 4 7))) ∷ []
unfolding replies_of
finalization_first = refl

-- pruning keeps the view at the floor
kept_at_the_floor :
    replies_of
    (voter 0 1 0)
    (
    AddNotarization 10 9 7 ∷ AddFinalization 20 19 9 5 ∷ Prune ∷ Leader 11 ∷ BroadcastNotarization 10 ∷ []
    )
    ≡
    Added true None ∷ Added true None ∷ Views (1 ∷ []) ∷ Member (Some 2) ∷
    Certificate (Some (Notarized (certificate 10 9 7))) ∷ []
unfolding replies_of
kept_at_the_floor = refl

-- pruning keeps the nullifications from the floor on
kept_nullifications :
    replies_of
    (voter 0 1 0)
    (
    AddNullification 1 5 ∷ AddNullification 2 6 ∷ Prune ∷ SetProposal 3 0 7 ∷ TryVerify ∷ []
    )
    ≡
    Flag true ∷ Flag true ∷ Views [] ∷ Flag true ∷ Work (Ready (context 3 2 0 0) (proposal 3 0 7)) ∷ []
unfolding replies_of
kept_nullifications = refl

-- a finalization hands its leader on
opened_by_finalization :
    replies_of
    (voter 0 5 2)
    (
    AddFinalization 1 0 7 5 ∷ Leader 3 ∷ Leader 4 ∷ Leader 5 ∷ []
    )
    ≡
    Added true None ∷ Member (Some 0) ∷ Member (Some 0) ∷ Member None ∷ []
unfolding replies_of
opened_by_finalization = refl

-- each certificate is returned for broadcast once
handed_out_once :
    replies_of
    (voter 0 1 0)
    (
    AddNotarization 1 0 7 ∷ BroadcastNotarization 1 ∷ BroadcastNotarization 1 ∷ AddNullification 1 5 ∷
    BroadcastNullification 1 ∷ BroadcastNullification 1 ∷ BroadcastFinalization 1 ∷ AddFinalization 1 0 7 6 ∷
    BroadcastFinalization 1 ∷ []
    )
    ≡
    Added true None ∷ Certificate (Some (Notarized (certificate 1 0 7))) ∷ Certificate None ∷ Flag true ∷
    Certificate (Some (Nullified (nullification 1))) ∷ Certificate None ∷ Certificate None ∷ Added true None ∷
    Certificate (Some (Finalized (certificate 1 0 7))) ∷ []
unfolding replies_of
handed_out_once = refl

-- each view takes its leader from the one before
led_in_turn :
    replies_of
    (voter 0 5 2)
    (
    AddNotarization 2 1 9 ∷ Leader 2 ∷ Leader 4 ∷ []
    )
    ≡
    Added true None ∷ Member None ∷ Member (Some 0) ∷ []
unfolding replies_of
led_in_turn = refl

-- where no view is voted for ahead, the next term's start is worked on from the last view of the term on
next_start :
    replies_of
    (voter 0 5 0)
    (
    AddNotarization 3 2 7 ∷ Certified 3 true 5 ∷ AddNotarization 5 4 9 ∷ SetProposal 6 5 8 ∷ TryVerify ∷
    AddNotarization 4 3 2 ∷ Certified 4 true 6 ∷ TryVerify ∷ []
    )
    ≡
    Added true None ∷ Judged (Some (proposal 3 2 7)) ∷ Added true None ∷ Flag true ∷ Work Wait ∷ Added true None ∷
    Judged (Some (proposal 4 3 2)) ∷ Work (Resolve 6 5 Notarization 1) ∷ []
unfolding replies_of
next_start = refl
