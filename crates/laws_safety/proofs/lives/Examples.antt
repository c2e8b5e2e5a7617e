-- For readers.
-- Calls of one lifetime by the definitions, of member 0 of the recoveries' examples, who retains 5 views.
use Rattle.std.proofs.Common.{◌≡◌, refl, ℕ, true, false, List, [], ◌∷◌, Some, None, nat_eq}
use Rattle.std.specs.List.{fold}
use Rattle.simplex_types.specs.Config.{Genesis}
use Rattle.simplex_types.specs.Certificates.{ProposalFacts}
use Rattle.simplex_voter.specs.Facts.{StateFacts, new_facts, is_tracked}
use Rattle.simplex_voter.specs.Windows.{min_active, in_issuance_window}
use Rattle.simplex_voter.specs.Parents.{verification_matches}
use Rattle.simplex_voter.specs.Acceptance.{after_set_floor}
use Rattle.simplex_voter.specs.StateAnswers.{prune_answer}
use Rattle.simplex_member.specs.CallConditions.{is_allowed}
use Rattle.simplex_member.specs.Calls.{CallFacts, AddNotarization, AddNullification, AddFinalization, SetProposal, ReleaseProposalRequest, Verified, BroadcastNotarization, BroadcastFinalization, GetBestCertificate, Prune, ReplyFacts}
use Rattle.simplex_member.specs.CallSemantics.{answer, after_call}
use Rattle.laws_safety.specs.LifetimeLaws.{has_conflict, KindOfCertificate, Notarization, Finalization, returned_in}
use Rattle.simplex_member.specs.OutstandingWork.{no_outstanding_work}
use Rattle.simplex_record.proofs.Examples.{proposal}
use Rattle.simplex_record.proofs.RecoveryExamples.{in_turn, settings}

abbrev State : Type 0
State = StateFacts ℕ ℕ ℕ

abbrev Call : Type 0
Call = CallFacts ℕ

abbrev Reply : Type 0
Reply = ReplyFacts ℕ ℕ

-- begun at genesis, in terms of this many views
abbrev begun_in : ℕ → State
begun_in term_length =
    after_set_floor nat_eq in_turn (new_facts (record settings { view_retention = 5 }) (Some 0) (0 ∷ 1 ∷ 2 ∷ 3 ∷ []) 1
    (record { term_length = term_length; optimistic_views = 0; stall_timeout = None }) true) (Genesis 0) 0

-- the state after allowed calls, and their replies; no reply depends on the open requests
abbrev after_all : State → List Call → State
after_all x calls = fold (λ y call. after_call nat_eq in_turn y no_outstanding_work call) x calls

abbrev replies_from : State → List Call → List Reply
replies_from x [] = []
replies_from x (call ∷ calls) = answer nat_eq in_turn x no_outstanding_work call ∷ replies_from
    (after_call nat_eq in_turn x no_outstanding_work call) calls

abbrev after : List Call → State
after calls = after_all (begun_in 1) calls

-- a certificate of a proposal with this payload
abbrev certificate : ℕ → ℕ → ProposalFacts ℕ
certificate v payload = record { proposal = proposal v 0 payload; bytes = [] }

abbrev handed : KindOfCertificate → List Call → List ℕ
handed kind calls = returned_in kind calls (replies_from (begun_in 1) calls)

abbrev asked_often : List Call
asked_often =
    BroadcastNotarization 1
    ∷ AddNotarization (certificate 1 0)
    ∷ BroadcastNotarization 1
    ∷ GetBestCertificate
    ∷ BroadcastNotarization 1
    ∷ AddNotarization (certificate 2 0)
    ∷ BroadcastNotarization 2
    ∷ AddNotarization (certificate 1 0)
    ∷ BroadcastNotarization 1
    ∷ BroadcastFinalization 1
    ∷ []

-- none before it is there, and once then; the best certificate is returned as often as one likes
once_each : handed Notarization asked_often ≡ 1 ∷ 2 ∷ []
once_each = refl

none_stands : handed Finalization asked_often ≡ []
none_stands = refl

-- a finalization of another proposal than the notarized one
abbrev contradicted : List Call
contradicted = AddNotarization (certificate 1 0) ∷ AddFinalization (certificate 1 9) 0 ∷ []

conflict : has_conflict (after contradicted) 1 ≡ true
conflict = refl

-- a prune drops no retained view
still_kept : has_conflict (after (AddNotarization (certificate 1 0) ∷ AddFinalization (certificate 1 9) 0 ∷ Prune ∷ []))
    1 ≡ true
still_kept = refl

abbrev far : List Call
far = AddNotarization (certificate 1 0) ∷ AddFinalization (certificate 1 9) 0 ∷ AddFinalization (certificate 20 0) 0
    ∷ []

still_there : has_conflict (after far) 1 ≡ true
still_there = refl

replied_dropped : prune_answer (after far) ≡ 1 ∷ 2 ∷ []
replied_dropped = refl

abbrev pruned : State
pruned = after (AddNotarization (certificate 1 0) ∷ AddFinalization (certificate 1 9) 0 ∷ AddFinalization
    (certificate 20 0) 0 ∷ Prune ∷ [])

conflict_gone : has_conflict pruned 1 ≡ false
conflict_gone = refl

untracked_now : is_tracked pruned 1 ≡ false
untracked_now = refl

-- and its certificates are not taken again
kept_from : min_active pruned ≡ 15
kept_from = refl

not_again : is_allowed pruned no_outstanding_work (AddNotarization (certificate 1 0)) ≡ false
not_again = refl

-- another proposal that a vote shows contradicts too, and an answer of a verification settles nothing

abbrev seen_twice : State
seen_twice = after_all (begun_in 1) (SetProposal 1 (proposal 1 0 7) ∷ SetProposal 1 (proposal 1 0 9) ∷ [])

one_seen : has_conflict (after_all (begun_in 1) (SetProposal 1 (proposal 1 0 7) ∷ SetProposal 1 (proposal 1 0 7) ∷ []))
    1 ≡ false
unfolding in_issuance_window
one_seen = refl

two_seen : has_conflict seen_twice 1 ≡ true
unfolding in_issuance_window
two_seen = refl

never_settled : has_conflict
    (after_all seen_twice (Verified 1 ∷ SetProposal 1 (proposal 1 0 7) ∷ ReleaseProposalRequest 1 ∷ [])) 1 ≡ true
unfolding in_issuance_window verification_matches
never_settled = refl

-- a view that was dropped isn't tracked again, but where terms have no view: a nullification leads to view 1 there

abbrev dropping : List Call
dropping = AddFinalization (certificate 20 0) 0 ∷ Prune ∷ []

abbrev nullified_then : List Call
nullified_then = AddFinalization (certificate 20 0) 0 ∷ Prune ∷ AddNullification
    (record { round = record { epoch = 1; view = 16 }; bytes = [] }) 0 ∷ []

dropped : is_tracked (after_all (begun_in 1) dropping) 1 ≡ false
dropped = refl

not_tracked_again : is_tracked (after_all (begun_in 1) nullified_then) 1 ≡ false
not_tracked_again = refl

dropped_too : is_tracked (after_all (begun_in 0) dropping) 1 ≡ false
dropped_too = refl

in_terms_of_no_view : is_tracked (after_all (begun_in 0) nullified_then) 1 ≡ true
in_terms_of_no_view = refl
