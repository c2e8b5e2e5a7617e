-- Long mixed scripts, with the replies of a separate port of the reference implementation.
use Rattle.std.specs.Prelude.{◌≡◌, true, false, [], ◌∷◌, Some, None}
use Rattle.std.proofs.Common.{refl}
use Rattle.simplex_types.specs.Certificates.{Notarized, Nullified, Finalized}
use Rattle.simplex_types.specs.declared.reasons.Kind.TheVariants.{Nullification, Notarization}
use Rattle.simplex_types.specs.declared.reasons.HandoffAbandonedReason.TheVariants.{AncestryInvalidated}
use Rattle.simplex_types.specs.declared.reasons.TimeoutReason.TheVariants.{Inactivity, LeaderNullify, LeaderTimeout, CertificationTimeout, StallTimeout, MissingProposal, InvalidProposal}
use Rattle.simplex_voter.specs.declared.voter.propose.ProposalRequest.TheVariants.{Prepare, Propose}
use Rattle.simplex_voter.specs.declared.voter.verify.Verify.TheVariants.{Ready, Resolve, Wait}
use Rattle.laws_voter.proofs.Examples.Scripts.{replies_of, member, usual, proposal, context, certificate, nullification, fetch, finalized, voted_notarize, voted_nullify}
use Rattle.laws_voter.proofs.Examples.Scripts.Call.{AddNotarization, AddNullification, AddFinalization, SetProposal, TryPropose, Proposed, Supersede, Abandonment, Release, TryVerify, Verified, Rejected, Candidates, SetCertifyHandle, Certified, Notarize, Nullify, Finalize, BroadcastNotarization, BroadcastNullification, BroadcastFinalization, Best, Trigger, NextTimeout, Prune, Replayed, View, Elapsed, Leader, Forwardable, ParentCertified, VotedNullify}
use Rattle.laws_voter.proofs.Examples.Scripts.Reply.{Done, Flag, Added, Asked, Abandoned, Work, Offered, Judged, Vote, NullifyVote, Certificate, Timeout, Views, Now, Since, Member, NotAllowed}

-- member 1, terms of 2, 0 optimistic views
first_mix :
    replies_of
    (member (Some 1) (record { term_length = 2; optimistic_views = 0; stall_timeout = None })
    (record usual { skip_budget = 1; view_retention = 3 }) 0)
    (
    SetProposal 1 0 3 ∷ TryPropose ∷ TryPropose ∷ AddNotarization 1 0 3 ∷ Verified 1 ∷ Certified 1 true 2202 ∷
    Trigger 1 MissingProposal 2302 ∷ SetProposal 2 1 2 ∷ Leader 3 ∷ SetProposal 2 1 2 ∷ Finalize 1 ∷
    AddNotarization 2 1 2 ∷ Best ∷ TryPropose ∷ TryVerify ∷ TryPropose ∷ Proposed (context 3 1 2 2) 1 3612 ∷
    Candidates ∷ VotedNullify 2 ∷ BroadcastNullification 2 ∷ TryVerify ∷ Supersede (context 3 1 2 2) ∷ Notarize 1 ∷
    Proposed (context 3 1 2 2) 1 4218 ∷ NextTimeout 4318 ∷ Verified 2 ∷ SetProposal 2 1 2 ∷
    AddFinalization 2 1 2 5023 ∷ TryVerify ∷ Supersede (context 3 1 2 2) ∷ Finalize 3 ∷ Certified 2 true 5929 ∷
    Forwardable 5 ∷ Forwardable 5 ∷ Supersede (context 3 1 1 3) ∷ AddNotarization 4 3 1 ∷
    Abandonment (context 3 1 2 2) ∷ NextTimeout 7830 ∷ Proposed (context 3 1 2 2) 2 7831 ∷ TryVerify ∷ []
    )
    ≡
    Flag true ∷ Asked None ∷ Asked None ∷ Added true None ∷ Flag true ∷ Judged (Some (proposal 1 0 3)) ∷ Done ∷
    Flag true ∷ Member None ∷ Flag false ∷ Vote (Some (proposal 1 0 3)) ∷ Added true None ∷
    Certificate (Some (Notarized (certificate 1 0 3))) ∷ Asked (Some (Prepare (context 3 1 2 2))) ∷
    Work (Ready (context 2 0 1 3) (proposal 2 1 2)) ∷ Asked None ∷ Flag true ∷ Offered (proposal 2 1 2 ∷ []) [] ∷
    Flag false ∷ Certificate None ∷ Work Wait ∷ Flag false ∷ Vote (Some (proposal 1 0 3)) ∷ Flag true ∷
    Timeout (Some (4202, CertificationTimeout)) ∷ Flag true ∷ Flag false ∷ Added true None ∷ Work Wait ∷ Flag false ∷
    Vote None ∷ Judged (Some (proposal 2 1 2)) ∷ Vote None ∷ Vote None ∷ Flag true ∷ Added true None ∷
    Abandoned None ∷ Timeout (Some (7023, CertificationTimeout)) ∷ Flag false ∷ Work Wait ∷ []
unfolding replies_of
first_mix = refl

-- member 0, terms of 5, 2 optimistic views
second_mix :
    replies_of
    (member (Some 0) (record { term_length = 5; optimistic_views = 2; stall_timeout = Some 700 })
    (record usual { skip_budget = 4; view_retention = 3 }) 0)
    (
    NextTimeout 102 ∷ View ∷ TryPropose ∷ Proposed (context 1 0 0 0) 1 1603 ∷ AddNotarization 1 0 1 ∷
    SetProposal 2 1 1 ∷ AddNullification 1 1604 ∷ AddNotarization 7 6 1 ∷ Certified 1 true 2004 ∷
    Supersede (context 1 0 0 0) ∷ BroadcastNotarization 1 ∷ Abandonment (context 1 0 0 2) ∷ Prune ∷ Notarize 1 ∷
    Candidates ∷ View ∷ AddNullification 7 3910 ∷ TryVerify ∷ Abandonment (context 1 0 0 0) ∷ View ∷
    SetProposal 4 3 1 ∷ AddNullification 12 5117 ∷ Proposed (context 1 0 0 0) 2 5717 ∷ TryVerify ∷ Release 17 ∷
    Prune ∷ BroadcastNullification 12 ∷ AddNotarization 18 17 2 ∷ Proposed (context 1 0 0 0) 2 6820 ∷
    Proposed (context 1 0 0 0) 2 6825 ∷ Notarize 16 ∷ Forwardable 17 ∷ Supersede (context 1 0 0 2) ∷ TryPropose ∷
    Forwardable 15 ∷ SetProposal 20 19 3 ∷ View ∷ AddNotarization 17 16 1 ∷ Supersede (context 1 0 0 0) ∷
    AddNotarization 16 2 3 ∷ []
    )
    ≡
    Timeout (Some (700, StallTimeout)) ∷ Now 1 0 0 ∷ Asked (Some (Propose (context 1 0 0 0))) ∷ Flag true ∷
    Added true None ∷ Flag true ∷ Flag true ∷ Added true None ∷ Judged (Some (proposal 1 0 1)) ∷ Flag false ∷
    Certificate (Some (Notarized (certificate 1 0 1))) ∷ Abandoned (Some (AncestryInvalidated)) ∷ Views [] ∷
    Vote (Some (proposal 1 0 1)) ∷ Offered [] (fetch 7 6 ∷ []) ∷ Now 6 0 0 ∷ Flag true ∷ Work Wait ∷ Abandoned None ∷
    Now 11 0 0 ∷ Flag true ∷ Flag true ∷ Flag false ∷ Work Wait ∷ Done ∷ Views [] ∷
    Certificate (Some (Nullified (nullification 12))) ∷ Added true None ∷ Flag false ∷ Flag false ∷ Vote None ∷
    Vote None ∷ Flag true ∷ Asked None ∷ Vote None ∷ Flag true ∷ Now 16 0 0 ∷ Added true None ∷ Flag false ∷
    Added true None ∷ []
unfolding replies_of
second_mix = refl

-- member 3, terms of 1, 4 optimistic views
third_mix :
    replies_of
    (member (Some 3) (record { term_length = 1; optimistic_views = 4; stall_timeout = None })
    (record usual { skip_budget = 2; view_retention = 1 }) 0)
    (
    AddNotarization 1 0 1 ∷ Candidates ∷ SetProposal 2 1 3 ∷ BroadcastNotarization 1 ∷ TryVerify ∷
    AddNotarization 3 2 3 ∷ Nullify 2 ∷ ParentCertified 0 3 ∷ Notarize 1 ∷ SetProposal 1 0 2 ∷
    AddFinalization 1 0 2 2717 ∷ Certified 1 false 3117 ∷ Certified 3 true 3118 ∷ TryPropose ∷
    Supersede (context 4 3 3 3) ∷ Candidates ∷ Candidates ∷ View ∷ Certified 3 false 4428 ∷
    Supersede (context 4 3 3 3) ∷ TryVerify ∷ Finalize 3 ∷ BroadcastNotarization 3 ∷ ParentCertified 3 2 ∷
    Proposed (context 4 3 3 3) 2 7733 ∷ Supersede (context 4 3 3 3) ∷ Supersede (context 4 3 3 3) ∷
    AddNotarization 5 4 3 ∷ ParentCertified 4 0 ∷ Proposed (context 4 3 3 3) 1 8744 ∷ Notarize 4 ∷
    AddNotarization 6 5 3 ∷ Notarize 4 ∷ AddNotarization 3 2 3 ∷ AddNotarization 4 3 3 ∷
    Proposed (context 4 3 3 3) 1 10949 ∷ TryVerify ∷ TryPropose ∷ Verified 5 ∷ VotedNullify 4 ∷ []
    )
    ≡
    Added true None ∷ Offered (proposal 1 0 1 ∷ []) [] ∷ Flag true ∷
    Certificate (Some (Notarized (certificate 1 0 1))) ∷ Work (Ready (context 1 0 0 0) (proposal 1 0 1)) ∷
    Added true None ∷ NullifyVote None ∷ Flag false ∷ Vote None ∷ Flag false ∷ Added true (Some (0)) ∷
    Judged (Some (proposal 1 0 1)) ∷ Judged (Some (proposal 3 2 3)) ∷ Asked (Some (Propose (context 4 3 3 3))) ∷
    Flag false ∷ Offered [] [] ∷ Offered [] [] ∷ Now 4 1 0 ∷ NotAllowed ∷ Flag false ∷ Work Wait ∷
    Vote (Some (proposal 3 2 3)) ∷ Certificate (Some (Notarized (certificate 3 2 3))) ∷ Flag false ∷ Flag true ∷
    Flag false ∷ Flag false ∷ Added true None ∷ Flag false ∷ Flag false ∷ Vote (Some (proposal 4 3 2)) ∷
    Added true None ∷ Vote None ∷ Added false None ∷ Added true (Some (3)) ∷ Flag false ∷
    Work (Resolve 5 4 Notarization 0) ∷ Asked None ∷ Flag true ∷ Flag false ∷ []
unfolding replies_of
third_mix = refl

-- member 1, terms of 2, 0 optimistic views
fourth_mix :
    replies_of
    (member (Some 1) (record { term_length = 2; optimistic_views = 0; stall_timeout = Some 1500 })
    (record usual { skip_budget = 4; view_retention = 10 }) 0)
    (
    Leader 2 ∷ Candidates ∷ Candidates ∷ Finalize 1 ∷ Prune ∷ Certified 2 true 1607 ∷ SetCertifyHandle 2 8 ∷
    ParentCertified 0 3 ∷ AddNotarization 1 0 1 ∷ Trigger 1 Inactivity 2509 ∷ Elapsed 2 2609 ∷ Elapsed 2 3210 ∷
    VotedNullify 2 ∷ Certified 1 true 3810 ∷ AddNotarization 2 1 3 ∷ TryVerify ∷ Verified 2 ∷ TryPropose ∷
    Candidates ∷ AddNotarization 1 0 1 ∷ SetCertifyHandle 2 3 ∷ TryVerify ∷ Candidates ∷
    Abandonment (context 3 1 2 3) ∷ Supersede (context 3 1 2 3) ∷ Abandonment (context 3 1 2 3) ∷
    Abandonment (context 3 1 2 3) ∷ Release 2 ∷ AddNotarization 4 3 1 ∷ Abandonment (context 3 1 2 3) ∷
    NextTimeout 5535 ∷ Abandonment (context 3 1 0 1) ∷ Certified 4 true 6136 ∷ Replayed (voted_notarize 1 5 4 3) ∷
    ParentCertified 3 3 ∷ Trigger 5 MissingProposal 6736 ∷ Proposed (context 3 1 2 3) 1 6736 ∷ Best ∷
    NextTimeout 6742 ∷ View ∷ []
    )
    ≡
    Member None ∷ Offered [] [] ∷ Offered [] [] ∷ Vote None ∷ Views [] ∷ Judged None ∷ Done ∷ Flag false ∷
    Added true None ∷ Done ∷ Since None None ∷ Since None None ∷ Flag false ∷ Judged (Some (proposal 1 0 1)) ∷
    Added true None ∷ Work (Ready (context 2 0 1 1) (proposal 2 1 3)) ∷ Flag true ∷
    Asked (Some (Prepare (context 3 1 2 3))) ∷ Offered (proposal 2 1 3 ∷ []) [] ∷ Added false None ∷ Done ∷
    Work Wait ∷ Offered [] [] ∷ Abandoned None ∷ Flag false ∷ Abandoned None ∷ Abandoned None ∷ Done ∷
    Added true None ∷ Abandoned None ∷ Timeout (Some (1500, StallTimeout)) ∷ Abandoned (Some (AncestryInvalidated)) ∷
    Judged (Some (proposal 4 3 1)) ∷ Done ∷ Flag false ∷ Done ∷ Flag true ∷
    Certificate (Some (Notarized (certificate 4 3 1))) ∷ Timeout (Some (6736, MissingProposal)) ∷ Now 5 0 0 ∷ []
unfolding replies_of
fourth_mix = refl

-- member 3, terms of 2, 1 optimistic views
fifth_mix :
    replies_of
    (member (Some 3) (record { term_length = 2; optimistic_views = 1; stall_timeout = None })
    (record usual { skip_budget = 1; view_retention = 2 }) 0)
    (
    TryPropose ∷ AddNotarization 1 0 2 ∷ TryPropose ∷ Replayed (finalized 3 1 2) ∷ Candidates ∷
    ParentCertified 0 0 ∷ TryVerify ∷ Candidates ∷ NextTimeout 3402 ∷ Certified 1 true 3507 ∷ Notarize 1 ∷
    Candidates ∷ Prune ∷ Verified 1 ∷ TryVerify ∷ SetProposal 2 1 3 ∷ SetProposal 6 5 3 ∷ SetProposal 3 2 1 ∷
    Finalize 1 ∷ AddNullification 3 6213 ∷ Nullify 5 ∷ Notarize 1 ∷ Verified 6 ∷ AddNotarization 6 5 3 ∷
    AddNullification 6 6924 ∷ VotedNullify 7 ∷ TryVerify ∷ Certified 6 true 7235 ∷ AddNotarization 8 5 2 ∷
    SetCertifyHandle 8 2 ∷ Finalize 6 ∷ TryPropose ∷ Elapsed 7 8736 ∷ Notarize 6 ∷ SetProposal 7 6 2 ∷ Candidates ∷
    Leader 9 ∷ View ∷ Abandonment (context 7 3 6 3) ∷ TryVerify ∷ []
    )
    ≡
    Asked None ∷ Added true None ∷ Asked None ∷ Done ∷ Offered (proposal 1 0 2 ∷ []) [] ∷ Flag true ∷
    Work (Ready (context 1 0 0 0) (proposal 1 0 2)) ∷ Offered [] [] ∷ Timeout (Some (2000, CertificationTimeout)) ∷
    Judged (Some (proposal 1 0 2)) ∷ Vote None ∷ Offered [] [] ∷ Views [] ∷ Flag true ∷ Work Wait ∷ Flag true ∷
    Flag true ∷ Flag true ∷ Vote (Some (proposal 1 0 2)) ∷ Flag true ∷ NullifyVote (Some false) ∷
    Vote (Some (proposal 1 0 2)) ∷ Flag true ∷ Added true None ∷ Flag true ∷ Flag false ∷ Work Wait ∷
    Judged (Some (proposal 6 5 3)) ∷ Added true None ∷ Done ∷ Vote None ∷ Asked (Some (Propose (context 7 3 6 3))) ∷
    Since (Some 1812) (Some 1812) ∷ Vote (Some (proposal 6 5 3)) ∷ Flag true ∷ Offered [] (fetch 6 5 ∷ []) ∷
    Member (Some (0)) ∷ Now 7 0 0 ∷ Abandoned None ∷ Work Wait ∷ []
unfolding replies_of
fifth_mix = refl

-- member 1, terms of 1, 2 optimistic views
sixth_mix :
    replies_of
    (member (Some 1) (record { term_length = 1; optimistic_views = 2; stall_timeout = Some 1500 })
    (record usual { skip_budget = 1; view_retention = 2 }) 0)
    (
    AddNotarization 3 2 2 ∷ SetCertifyHandle 3 6 ∷ Nullify 1 ∷ Prune ∷ View ∷ Forwardable 1 ∷ Finalize 1 ∷
    TryVerify ∷ AddFinalization 3 2 2 2212 ∷ SetCertifyHandle 5 9 ∷ AddNotarization 3 2 2 ∷ TryVerify ∷
    SetProposal 4 3 1 ∷ Finalize 4 ∷ Leader 6 ∷ Candidates ∷ TryPropose ∷ AddNotarization 5 4 2 ∷ Nullify 4 ∷
    Certified 5 true 6918 ∷ TryPropose ∷ AddNullification 8 7018 ∷ SetProposal 9 8 1 ∷ BroadcastNotarization 5 ∷
    AddNotarization 10 9 3 ∷ Rejected 8 InvalidProposal 8323 ∷ Finalize 5 ∷ Abandonment (context 6 1 5 2) ∷
    Candidates ∷ Certified 3 false 8429 ∷ Proposed (context 6 1 4 3) 1 8429 ∷ SetCertifyHandle 9 3 ∷ Notarize 1 ∷
    Best ∷ Leader 10 ∷ Prune ∷ TryVerify ∷ Candidates ∷ SetProposal 6 5 1 ∷ SetProposal 1 0 1 ∷ []
    )
    ≡
    Added true None ∷ Done ∷ NullifyVote (Some false) ∷ Views [] ∷ Now 1 0 0 ∷ Vote None ∷ Vote None ∷ Work Wait ∷
    Added true None ∷ Done ∷ Added false None ∷ Work Wait ∷ Flag true ∷ Vote None ∷ Member None ∷ Offered [] [] ∷
    Asked None ∷ Added true None ∷ NullifyVote (Some false) ∷ Judged (Some (proposal 5 4 2)) ∷
    Asked (Some (Propose (context 6 1 5 2))) ∷ Flag true ∷ Flag true ∷
    Certificate (Some (Notarized (certificate 5 4 2))) ∷ Added true None ∷ Done ∷ Vote (Some (proposal 5 4 2)) ∷
    Abandoned None ∷ Offered (proposal 10 9 3 ∷ []) [] ∷ Judged (Some (proposal 3 2 2)) ∷ Flag false ∷ Done ∷
    Vote None ∷ Certificate (Some (Nullified (nullification 8))) ∷ Member None ∷ Views [] ∷
    Work (Resolve 9 8 Notarization 0) ∷ Offered [] [] ∷ Flag true ∷ Flag false ∷ []
unfolding replies_of
sixth_mix = refl

-- member 1, terms of 2, 0 optimistic views
seventh_mix :
    replies_of
    (member (Some 1) (record { term_length = 2; optimistic_views = 0; stall_timeout = None })
    (record usual { skip_budget = 4; view_retention = 1 }) 0)
    (
    Finalize 2 ∷ Nullify 1 ∷ SetProposal 1 1 3 ∷ Verified 3 ∷ Nullify 1 ∷ SetProposal 2 1 3 ∷ TryPropose ∷ Best ∷
    AddFinalization 1 1 3 2422 ∷ AddNotarization 2 1 3 ∷ Leader 3 ∷ Trigger 4 Inactivity 2827 ∷
    AddNotarization 2 1 3 ∷ Trigger 2 LeaderNullify 2932 ∷ TryVerify ∷ TryPropose ∷ Certified 2 false 3837 ∷
    SetProposal 3 2 1 ∷ Elapsed 3 3843 ∷ Best ∷ SetProposal 3 2 1 ∷ ParentCertified 3 1 ∷
    Abandonment (context 3 1 2 3) ∷ Verified 2 ∷ NextTimeout 5049 ∷ Best ∷ Prune ∷ NextTimeout 6349 ∷
    AddNullification 1 6449 ∷ SetProposal 2 1 3 ∷ Abandonment (context 3 1 2 3) ∷ Elapsed 3 7149 ∷
    Certified 3 true 7249 ∷ NextTimeout 7849 ∷ Abandonment (context 3 1 2 3) ∷ ParentCertified 1 0 ∷
    SetProposal 2 1 3 ∷ AddNotarization 3 2 1 ∷ Notarize 4 ∷ Candidates ∷ []
    )
    ≡
    Vote None ∷ NullifyVote (Some false) ∷ Flag false ∷ Flag false ∷ NullifyVote (Some true) ∷ Flag true ∷
    Asked None ∷ Certificate None ∷ Added true None ∷ Added true None ∷ Member (Some (1)) ∷ Done ∷ Added false None ∷
    Done ∷ Work (Ready (context 2 0 1 3) (proposal 2 1 3)) ∷ Asked (Some (Prepare (context 3 1 2 3))) ∷
    Judged (Some (proposal 2 1 3)) ∷ Flag true ∷ Since None None ∷
    Certificate (Some (Finalized (certificate 1 1 3))) ∷ Flag false ∷ Flag false ∷
    Abandoned (Some (AncestryInvalidated)) ∷ Flag true ∷ Timeout (Some (2932, LeaderNullify)) ∷
    Certificate (Some (Finalized (certificate 1 1 3))) ∷ Views [] ∷ Timeout (Some (2932, LeaderNullify)) ∷ Flag true ∷
    Flag false ∷ Abandoned (Some (AncestryInvalidated)) ∷ Since (Some 700) (Some 700) ∷ NotAllowed ∷
    Timeout (Some (8449, CertificationTimeout)) ∷ Abandoned (Some (AncestryInvalidated)) ∷ Flag false ∷ Flag false ∷
    Added true None ∷ Vote None ∷ Offered (proposal 3 2 1 ∷ []) [] ∷ []
unfolding replies_of
seventh_mix = refl

-- member 2, terms of 2, 4 optimistic views
eighth_mix :
    replies_of
    (member (Some 2) (record { term_length = 2; optimistic_views = 4; stall_timeout = Some 1500 })
    (record usual { skip_budget = 1; view_retention = 1 }) 0)
    (
    Notarize 1 ∷ SetProposal 1 0 2 ∷ Prune ∷ AddNotarization 2 1 3 ∷ Trigger 2 Inactivity 607 ∷ SetProposal 3 2 1 ∷
    TryVerify ∷ Rejected 1 InvalidProposal 609 ∷ VotedNullify 6 ∷ Release 1 ∷ Release 1 ∷ Elapsed 1 2714 ∷
    Verified 2 ∷ AddNotarization 2 1 3 ∷ NextTimeout 2820 ∷ SetProposal 4 3 3 ∷ Trigger 2 Inactivity 3520 ∷
    TryVerify ∷ Candidates ∷ TryPropose ∷ TryVerify ∷ AddNullification 3 5720 ∷ Certified 2 false 5720 ∷ Release 6 ∷
    TryPropose ∷ Certified 5 true 6725 ∷ TryVerify ∷ Leader 6 ∷ Best ∷ Best ∷ Trigger 5 LeaderNullify 7531 ∷
    Finalize 5 ∷ Certified 6 false 8132 ∷ Replayed (voted_notarize 2 5 4 1) ∷ Forwardable 7 ∷ Elapsed 7 9932 ∷
    Verified 1 ∷ AddFinalization 5 4 1 10533 ∷ TryPropose ∷ Abandonment (context 6 2 5 1) ∷ []
    )
    ≡
    Vote None ∷ Flag true ∷ Views [] ∷ Added true None ∷ Done ∷ Flag true ∷
    Work (Ready (context 1 0 0 0) (proposal 1 0 2)) ∷ Done ∷ Flag false ∷ Done ∷ Done ∷
    Since (Some 2714) (Some 2714) ∷ Flag true ∷ Added false None ∷ Timeout (Some (609, InvalidProposal)) ∷ Flag true ∷
    Done ∷ Work (Resolve 3 2 Notarization 1) ∷ Offered [] (fetch 2 1 ∷ []) ∷ Asked None ∷ Work Wait ∷ Flag true ∷
    Judged (Some (proposal 2 1 3)) ∷ Done ∷ Asked None ∷ NotAllowed ∷ Work Wait ∷ Member None ∷
    Certificate (Some (Nullified (nullification 3))) ∷ Certificate (Some (Nullified (nullification 3))) ∷ Done ∷
    Vote None ∷ Judged None ∷ Done ∷ Vote None ∷ Since None None ∷ Flag true ∷ Added true None ∷
    Asked (Some (Propose (context 6 2 5 1))) ∷ Abandoned None ∷ []
unfolding replies_of
eighth_mix = refl

-- member 0, terms of 2, 1 optimistic views
ninth_mix :
    replies_of
    (member (Some 0) (record { term_length = 2; optimistic_views = 1; stall_timeout = Some 1500 })
    (record usual { skip_budget = 4; view_retention = 10 }) 0)
    (
    Replayed (voted_nullify 0 2) ∷ TryVerify ∷ Finalize 3 ∷ View ∷ Release 1 ∷ View ∷ NextTimeout 2218 ∷ Best ∷
    TryVerify ∷ TryVerify ∷ Leader 1 ∷ TryPropose ∷ Abandonment (context 1 0 0 0) ∷ AddNotarization 3 2 2 ∷
    ParentCertified 0 1 ∷ Leader 1 ∷ SetProposal 4 3 3 ∷ TryVerify ∷ Certified 3 true 4730 ∷ AddNotarization 5 4 2 ∷
    Proposed (context 1 0 0 0) 1 4732 ∷ TryVerify ∷ Supersede (context 1 0 0 0) ∷ SetCertifyHandle 5 7 ∷ View ∷
    Certified 5 false 5733 ∷ Release 4 ∷ BroadcastNullification 3 ∷ NextTimeout 6633 ∷ SetProposal 6 5 2 ∷ Best ∷
    TryPropose ∷ VotedNullify 3 ∷ Notarize 1 ∷ Certified 5 false 8033 ∷ Prune ∷ Finalize 4 ∷ Verified 4 ∷
    TryVerify ∷ Prune ∷ []
    )
    ≡
    Done ∷ Work Wait ∷ Vote None ∷ Now 1 0 0 ∷ Done ∷ Now 1 0 0 ∷ Timeout (Some (1000, LeaderTimeout)) ∷
    Certificate None ∷ Work Wait ∷ Work Wait ∷ Member (Some (0)) ∷ Asked (Some (Propose (context 1 0 0 0))) ∷
    Abandoned None ∷ Added true None ∷ Flag false ∷ Member (Some (0)) ∷ Flag true ∷ Work Wait ∷
    Judged (Some (proposal 3 2 2)) ∷ Added true None ∷ Flag true ∷ Work (Ready (context 4 1 3 2) (proposal 4 3 3)) ∷
    Flag false ∷ Done ∷ Now 4 0 0 ∷ Judged (Some (proposal 5 4 2)) ∷ Done ∷ Certificate None ∷
    Timeout (Some (6230, StallTimeout)) ∷ Flag true ∷ Certificate (Some (Notarized (certificate 3 2 2))) ∷
    Asked None ∷ Flag false ∷ Vote (Some (proposal 1 0 1)) ∷ Judged (Some (proposal 5 4 2)) ∷ Views [] ∷ Vote None ∷
    Flag true ∷ Work Wait ∷ Views [] ∷ []
unfolding replies_of
ninth_mix = refl

-- member 0, terms of 1, 2 optimistic views
tenth_mix :
    replies_of
    (member (Some 0) (record { term_length = 1; optimistic_views = 2; stall_timeout = None })
    (record usual { skip_budget = 2; view_retention = 2 }) 0)
    (
    AddNotarization 2 1 1 ∷ Replayed (voted_notarize 0 2 1 1) ∷ Certified 2 true 907 ∷ AddNotarization 2 1 1 ∷
    TryVerify ∷ TryVerify ∷ Best ∷ TryVerify ∷ Certified 3 true 1610 ∷ Candidates ∷ Finalize 2 ∷ Forwardable 3 ∷
    SetProposal 3 2 1 ∷ NextTimeout 3411 ∷ SetProposal 1 0 3 ∷ Prune ∷ BroadcastNullification 2 ∷ Notarize 5 ∷
    Trigger 4 LeaderNullify 4320 ∷ SetProposal 5 4 1 ∷ AddNotarization 4 3 3 ∷ ParentCertified 3 3 ∷
    NextTimeout 5231 ∷ TryVerify ∷ NextTimeout 5536 ∷ BroadcastNullification 2 ∷ Forwardable 5 ∷
    AddNotarization 3 2 1 ∷ Verified 3 ∷ Release 2 ∷ Certified 3 false 7038 ∷ Elapsed 1 7338 ∷ Elapsed 4 7943 ∷
    TryPropose ∷ TryVerify ∷ Notarize 3 ∷ Certified 2 false 8945 ∷ Verified 3 ∷ TryPropose ∷ TryPropose ∷ []
    )
    ≡
    Added true None ∷ Done ∷ Judged (Some (proposal 2 1 1)) ∷ Added false None ∷ Work Wait ∷ Work Wait ∷
    Certificate (Some (Notarized (certificate 2 1 1))) ∷ Work Wait ∷ NotAllowed ∷ Offered [] [] ∷
    Vote (Some (proposal 2 1 1)) ∷ Vote None ∷ Flag true ∷ Timeout (Some (2907, CertificationTimeout)) ∷ Flag true ∷
    Views [] ∷ Certificate None ∷ Vote None ∷ Done ∷ Flag true ∷ Added true None ∷ Flag false ∷
    Timeout (Some (2907, CertificationTimeout)) ∷ Work (Ready (context 3 2 2 1) (proposal 3 2 1)) ∷
    Timeout (Some (2907, CertificationTimeout)) ∷ Certificate None ∷ Vote None ∷ Added true None ∷ Flag true ∷ Done ∷
    Judged (Some (proposal 3 2 1)) ∷ Since (Some 7338) (Some 7338) ∷ Since None None ∷ Asked None ∷
    Work (Resolve 4 3 Notarization 3) ∷ Vote (Some (proposal 3 2 1)) ∷ NotAllowed ∷ Flag false ∷ Asked None ∷
    Asked None ∷ []
unfolding replies_of
tenth_mix = refl

-- member 1, terms of 1, 0 optimistic views
eleventh_mix :
    replies_of
    (member (Some 1) (record { term_length = 1; optimistic_views = 0; stall_timeout = None })
    (record usual { skip_budget = 4; view_retention = 2 }) 0)
    (
    AddFinalization 2 1 2 5 ∷ NextTimeout 6 ∷ NextTimeout 106 ∷ VotedNullify 4 ∷ NextTimeout 406 ∷
    AddFinalization 4 3 2 407 ∷ Release 8 ∷ SetProposal 3 2 1 ∷ BroadcastNullification 4 ∷ AddNotarization 6 5 3 ∷
    Prune ∷ SetProposal 6 5 3 ∷ TryVerify ∷ Certified 6 true 1518 ∷ AddNotarization 7 4 2 ∷ Notarize 4 ∷
    SetCertifyHandle 7 2 ∷ AddNotarization 7 4 2 ∷ TryPropose ∷ Verified 9 ∷ Finalize 6 ∷ Candidates ∷
    AddNotarization 6 5 3 ∷ Best ∷ VotedNullify 2 ∷ NextTimeout 6435 ∷ Verified 7 ∷ SetProposal 8 7 3 ∷ Notarize 7 ∷
    TryVerify ∷ AddNotarization 9 8 3 ∷ AddNotarization 8 7 3 ∷ ParentCertified 6 0 ∷ TryPropose ∷ TryPropose ∷
    Best ∷ TryPropose ∷ BroadcastNotarization 8 ∷ Trigger 2 Inactivity 9148 ∷ AddNotarization 7 4 2 ∷ []
    )
    ≡
    Added true None ∷ Timeout (Some (1005, LeaderTimeout)) ∷ Timeout (Some (1005, LeaderTimeout)) ∷ Flag false ∷
    Timeout (Some (1005, LeaderTimeout)) ∷ Added true None ∷ Done ∷ Flag true ∷ Certificate None ∷ Added true None ∷
    Views (1 ∷ []) ∷ Flag false ∷ Work Wait ∷ Judged (Some (proposal 6 5 3)) ∷ Added true None ∷ Vote None ∷ Done ∷
    Added false None ∷ Asked None ∷ Flag false ∷ Vote (Some (proposal 6 5 3)) ∷ Offered [] [] ∷ Added false None ∷
    Certificate (Some (Notarized (certificate 6 5 3))) ∷ Flag false ∷ Timeout (Some (3518, CertificationTimeout)) ∷
    Flag true ∷ Flag true ∷ Vote (Some (proposal 7 4 2)) ∷ Work (Resolve 7 5 Nullification 2) ∷ Added true None ∷
    Added true None ∷ Flag false ∷ Asked None ∷ Asked None ∷ Certificate (Some (Notarized (certificate 6 5 3))) ∷
    Asked None ∷ Certificate (Some (Notarized (certificate 8 7 3))) ∷ Done ∷ Added false None ∷ []
unfolding replies_of
eleventh_mix = refl

-- member 1, terms of 1, 0 optimistic views
twelfth_mix :
    replies_of
    (member (Some 1) (record { term_length = 1; optimistic_views = 0; stall_timeout = None })
    (record usual { skip_budget = 4; view_retention = 3 }) 0)
    (
    NextTimeout 305 ∷ Notarize 2 ∷ TryPropose ∷ AddNotarization 1 0 2 ∷ Elapsed 1 2510 ∷ Best ∷
    AddNotarization 3 2 2 ∷ TryVerify ∷ TryPropose ∷ Release 1 ∷ Release 1 ∷ Candidates ∷ Prune ∷ Verified 1 ∷
    ParentCertified 2 3 ∷ Supersede (context 2 1 1 2) ∷ TryPropose ∷ AddNotarization 5 4 2 ∷ ParentCertified 0 2 ∷
    SetProposal 4 3 2 ∷ NextTimeout 6212 ∷ TryVerify ∷ SetProposal 2 1 1 ∷ Rejected 1 InvalidProposal 6712 ∷
    AddNotarization 3 2 2 ∷ Forwardable 1 ∷ Elapsed 1 7017 ∷ Best ∷ Verified 2 ∷ AddNullification 2 7319 ∷
    Certified 2 true 7324 ∷ View ∷ Notarize 2 ∷ Notarize 8 ∷ Finalize 4 ∷ Notarize 1 ∷ Finalize 4 ∷
    BroadcastFinalization 1 ∷ SetProposal 6 5 2 ∷ Best ∷ []
    )
    ≡
    Timeout (Some (1000, LeaderTimeout)) ∷ Vote None ∷ Asked None ∷ Added true None ∷ Since (Some 2510) (Some 2510) ∷
    Certificate None ∷ Added true None ∷ Work (Ready (context 1 0 0 0) (proposal 1 0 2)) ∷
    Asked (Some (Prepare (context 2 1 1 2))) ∷ Done ∷ Done ∷ Offered (proposal 1 0 2 ∷ proposal 3 2 2 ∷ []) [] ∷
    Views [] ∷ Flag true ∷ Flag false ∷ Flag false ∷ Asked None ∷ Added true None ∷ Flag false ∷ Flag true ∷
    Timeout (Some (2000, CertificationTimeout)) ∷ Work Wait ∷ Flag true ∷ Done ∷ Added false None ∷
    Vote (Some (proposal 1 0 2)) ∷ Since (Some 7017) (Some 7017) ∷ Certificate None ∷ Flag true ∷ Flag true ∷
    NotAllowed ∷ Now 3 0 0 ∷ Vote (Some (proposal 2 1 1)) ∷ Vote None ∷ Vote None ∷ Vote (Some (proposal 1 0 2)) ∷
    Vote None ∷ Certificate None ∷ Flag true ∷ Certificate (Some (Nullified (nullification 2))) ∷ []
unfolding replies_of
twelfth_mix = refl
