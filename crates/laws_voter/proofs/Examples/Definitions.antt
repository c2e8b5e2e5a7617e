-- Single definitions, applied to facts that calls alone don't show.
use Rattle.std.specs.Prelude.{◌≡◌, ℕ, true, false, [], ◌∷◌, Some, None, map, fold}
use Rattle.std.proofs.Common.{refl}
use Rattle.simplex_round.specs.declared.round.Certification.TheVariants.{Outstanding, Aborted}
use Rattle.simplex_round.specs.declared.round.Decision.TheVariants as decision
use Rattle.simplex_voter.specs.Windows.{in_issuance_window}
use Rattle.simplex_types.specs.Config.{Genesis, Finalized}
use Rattle.simplex_voter.specs.Refusals.{takes_round}
use Rattle.simplex_voter.specs.Acceptance.{takes_floor}
use Rattle.simplex_voter.specs.Verification.{takes_proposal}
use Rattle.simplex_round.specs.Round.{leader_at}
use Rattle.simplex_voter.specs.Parents.{verification_matches}
use Rattle.simplex_voter.specs.Facts.{Elect, round_of, with_round}
use Rattle.simplex_voter.specs.Payloads.{optimistic_ancestry_payload}
use Rattle.simplex_types.specs.declared.reasons.TimeoutReason.TheVariants.{MissingProposal}
use Rattle.simplex_voter.specs.ViewEntry.{with_view_entered}
use Rattle.simplex_voter.specs.Leaders.{with_elected_leader, opened_views}
use Rattle.simplex_voter.specs.StateAnswers.{leader_of}
use Rattle.laws_voter.proofs.Examples.Scripts.{State, context, same, fresh, proposal, certificate, in_turn, voter, keyless, recovered, replies_of, after_call, voted_notarize}
use Rattle.laws_voter.proofs.Examples.Scripts.Call.{Candidates, Certified, AddNotarization, AddNullification, Trigger, AddFinalization, SetProposal, TryPropose, Proposed, TryVerify, Verified, SetCertifyHandle, Notarize, Finalize}

-- without a window two replayed votes are no chain, though the second ends a term that this member takes over
no_chain_without_window : optimistic_ancestry_payload same in_turn
    (recovered (voter 1 2 0) 0 (voted_notarize 1 1 0 7 ∷ voted_notarize 1 2 1 9 ∷ [])) 2 ≡ None
unfolding replies_of
no_chain_without_window = refl

-- with a window they are
chain_in_window : optimistic_ancestry_payload same in_turn
    (recovered (voter 1 2 1) 0 (voted_notarize 1 1 0 7 ∷ voted_notarize 1 2 1 9 ∷ [])) 2 ≡ Some 9
unfolding replies_of
chain_in_window = refl

-- member 1 leads where there is no certificate, and else member 2
abbrev by_seed : Elect ℕ
by_seed elector round None = 1
by_seed elector round (Some bytes) = 2

-- a leader that is set stays
first_leader : leader_of (with_elected_leader by_seed (with_elected_leader by_seed (voter 0 1 0) 2 None) 2 (Some []))
    2 ≡ Some 1
first_leader = refl

-- and else the certificate decides
later_leader : leader_of (with_elected_leader by_seed (voter 0 1 0) 2 (Some [])) 2 ≡ Some 2
later_leader = refl

-- a proposal is set at its own view, in this epoch
other_view : takes_proposal (voter 0 1 0) 2 (proposal 1 0 7) ≡ false
other_view = refl

own_view : takes_proposal (voter 0 1 0) 1 (proposal 1 0 7) ≡ true
own_view = refl

other_epoch : takes_round (voter 0 1 0) (record { epoch = 2; view = 1 }) ≡ false
other_epoch = refl

-- a floor is set once, and its finalization is not of genesis
second_floor : takes_floor (voter 0 1 0) (Genesis 0) ≡ false
second_floor = refl

first_floor : takes_floor (fresh (voter 0 1 0)) (Genesis 0) ≡ true
first_floor = refl

floor_of_genesis : takes_floor (fresh (voter 0 1 0)) (Finalized (certificate 0 0 7)) ≡ false
floor_of_genesis = refl

floor_above_genesis : takes_floor (fresh (voter 0 1 0)) (Finalized (certificate 1 0 7)) ≡ true
floor_above_genesis = refl

-- a handoff that was built, before its parent is certified
abbrev handed_off : State
handed_off = fold after_call (voter 1 1 0)
    (SetProposal 1 0 7 ∷ TryVerify ∷ Verified 1 ∷ Notarize 1 ∷ TryPropose ∷ Proposed (context 2 1 1 7) 8 3 ∷ [])

-- its binding holds for the leader
leaders_binding : verification_matches same in_turn handed_off 2 ≡ true
unfolding replies_of
leaders_binding = refl

-- and for nobody else
others_binding : verification_matches same in_turn
    (with_round handed_off 2 (record (round_of handed_off 2) { leader = leader_at handed_off.members 3 })) 2 ≡ false
unfolding replies_of
others_binding = refl

-- a view's first entry stays
first_entry : (round_of (with_view_entered
    (with_round (voter 0 1 0) 2 (record (round_of (voter 0 1 0) 2) { entered_at = Some 3 })) 2 9) 2).entered_at ≡ Some 3
first_entry = refl

-- a view that is passed times out no more
passed_view : (round_of (after_call (after_call (voter 0 1 0) (AddNullification 1 5)) (Trigger 1 MissingProposal 6))
    1).decision ≡ (round_of (voter 0 1 0) 1).decision
unfolding replies_of
passed_view = refl

-- a proposal that isn't notarized waits for no certification
not_named : (fold after_call (voter 0 5 0)
    (AddNotarization 1 0 7 ∷ Candidates ∷ SetProposal 2 1 9 ∷ Certified 1 true 5 ∷ [])).named ≡ []
unfolding replies_of
not_named = refl

-- a member without a key decides a vote to finalize all the same
decided_without_key : (round_of (fold after_call (keyless 1 0)
    (AddNotarization 1 0 7 ∷ Certified 1 true 5 ∷ Finalize 1 ∷ [])) 1).decision ≡ decision.Finalize
unfolding replies_of
decided_without_key = refl

-- a finalization ends the certification that is under way, and keeps one above it
aborted : map (λ v. (round_of (after_call
    (after_call (after_call (after_call (after_call (voter 0 1 0) (AddNotarization 1 0 7)) (AddNotarization 3 2 4))
    (SetCertifyHandle 1 5)) (SetCertifyHandle 3 6)) (AddFinalization 2 1 9 7)) v).certification) (1 ∷ 3 ∷ []) ≡ Aborted
    ∷ Outstanding 6 ∷ []
unfolding replies_of
aborted = refl

-- a notarization opens the windows of the views above it, and not its own
notarized_windows : map (in_issuance_window (after_call (voter 0 5 1) (AddNotarization 3 2 4))) (3 ∷ 4 ∷ 5 ∷ []) ≡ false
    ∷ true ∷ true ∷ []
unfolding replies_of
notarized_windows = refl

-- no window reaches below the term's start, however many views are voted for ahead
no_window_below_the_term : map (in_issuance_window (after_call (voter 0 5 2) (AddNotarization 4 3 2)))
    (5 ∷ 6 ∷ 7 ∷ []) ≡ true ∷ false ∷ false ∷ []
unfolding replies_of
no_window_below_the_term = refl

-- a finalization opens them too
finalized_windows : map (in_issuance_window (after_call (voter 0 5 1) (AddFinalization 3 2 4 5)))
    (3 ∷ 4 ∷ 5 ∷ []) ≡ false ∷ true ∷ true ∷ []
unfolding replies_of
finalized_windows = refl

-- a certificate hands its leader on to at most one view more than the optimistic ones, and not into the next term
opened : map (opened_views (voter 0 5 2)) (1 ∷ 3 ∷ 5 ∷ []) ≡ (2 ∷ 3 ∷ 4 ∷ []) ∷ (4 ∷ 5 ∷ []) ∷ [] ∷ []
opened = refl
