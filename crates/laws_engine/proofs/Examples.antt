-- Cases of the definitions that an engine's contracts cite, computed: what is asked of peers, what a resolver receives,
-- what causes
-- everything, how high fetches lie. Terms have five views, 10 views are retained; keys, payloads, signatures and
-- certificates are numbers.
use Rattle.std.proofs.Common.{◌≡◌, refl, ℕ, ◌^◌, ◌-◌, true, false, List, [], ◌∷◌, map, Some, None}
use Rattle.simplex_types.specs.Certificates.{ProposalFacts, NullificationFacts}
use Rattle.simplex_types.specs.declared.reasons.Kind.TheVariants.{Notarization as OfNotarization}
use Rattle.simplex_types.specs.declared.reasons.TimeoutReason.TheVariants.{LeaderTimeout}
use Rattle.simplex_types.specs.declared.types.fault.Fault.TheVariants.{Failed, OutOfMemory}
use Rattle.simplex_voter.specs.Facts.{StateFacts, new_facts}
use Rattle.simplex_resolver.specs.Repair.{facts_of}
use Rattle.simplex_resolver.specs.Steps as resolver_call
use Rattle.simplex_resolver.specs.declared.resolver.effect.Effect.TheVariants as effect
use Rattle.simplex_record.proofs.Examples.{Entry, proposal, round, nullify, finalize, notarization, nullification, finalization, verdict}
use Rattle.simplex_record.proofs.RecoveryExamples.{settings}
use Rattle.simplex_member.specs.Calls.{CallFacts, AddNotarization, AddNullification, Certified, NextTimeout}
use Rattle.simplex_member.specs.MemberFacts.{MemberFacts}
use Rattle.simplex_member.specs.OutstandingWork.{no_outstanding_work}
use Rattle.simplex_member.specs.Runs.{StepFacts, Calls, Prunes}
use Rattle.simplex_member.specs.declared.member.calls.Reply.{Reply}
use Rattle.simplex_member.specs.declared.member.calls.Reply.TheVariants as reply
use Rattle.laws_safety.specs.RecordsOnce.{are_alike}
use Rattle.engine_fetches.specs.declared.fetches.FetchKind.TheVariants.{Notarization, Nullification, Decision}
use Rattle.engine_fetches.specs.Fetches.{asked_again, due_at, fresh, opened, passed, peers_of, settled, whose_turn}
use Rattle.engine_outbox.specs.RecordReach.{is_far_below, lowest_retained_after, lowest_of}
use Rattle.engine_outbox.specs.declared.output.Work.TheVariants.{Forget}
use Rattle.engine_planner.specs.declared.plan.Step.TheVariants.{Resolve}
use Rattle.engine_planner.specs.FetchRequests.{ended_by, ends_fetch, received_by, is_notarized}
use Rattle.engine_planner.specs.Causes.{Cause, WorkItem, Expiry, reply_causes}
use Rattle.simplex_engine.specs.Provenance.{forgettable, received_in, is_final}
use Rattle.simplex_engine.specs.Failures.{IsFailure}
use Rattle.simplex_engine.specs.FetchHeights.{highest_received, resolves_above}
use Rattle.laws_engine.specs.Polls.{ReturnQueue}

-- fetches

-- of four members, member 1 asks the others in turn, from whichever is the first on
in_turn : map (whose_turn (peers_of 4 (Some 1)) 2) (0 ∷ 1 ∷ 2 ∷ 3 ∷ []) ≡ Some 3 ∷ Some 0 ∷ Some 2 ∷ Some 3 ∷ []
in_turn = refl

-- one that only watches asks all, and a member alone asks nobody
of_all : map (whose_turn (peers_of 2 None) 0) (0 ∷ 1 ∷ 2 ∷ []) ≡ Some 0 ∷ Some 1 ∷ Some 0 ∷ []
of_all = refl

of_nobody : whose_turn (peers_of 1 (Some 0)) 0 0 ≡ None
of_nobody = refl

-- what is open stays as it is: neither its moment nor whose turn it is changes
open_already : opened Notarization 3 2 50 (fresh Notarization 3 0 10 ∷ []) ≡ fresh Notarization 3 0 10 ∷ []
open_already = refl

-- a certificate of another kind is asked for beside it
other_kind : opened Nullification 3 2 50 (fresh Notarization 3 0 10 ∷ []) ≡ fresh Notarization 3 0 10 ∷ fresh
    Nullification 3 2 50 ∷ []
other_kind = refl

-- the first that is due is asked for, at its moment already
due : due_at 10 (fresh Decision 2 0 11 ∷ fresh Notarization 3 0 10 ∷ []) ≡ Some 1
due = refl

-- and again after the interval; moments end at 2^64 - 1
again : asked_again 10 100 (fresh Notarization 3 0 10)
    ≡ record { kind = Notarization; view = 3; first = 0; count = 1; moment = 110 }
again = refl

last_moment : (asked_again (2 ^ 64 - 1) 100 (fresh Notarization 3 0 10)).moment ≡ 2 ^ 64 - 1
last_moment = refl

-- views up to the finalized one are over, whatever is asked for
over : passed 3 (fresh Notarization 3 0 10 ∷ fresh Nullification 4 0 10 ∷ []) ≡ fresh Nullification 4 0 10 ∷ []
over = refl

-- what is settled is so of its kind, from the first view to the last
settled_between : settled Nullification 3 5 (map (λ view. fresh Nullification view 0 10) (2 ∷ 3 ∷ 5 ∷ 6 ∷ [])) ≡ fresh
    Nullification 2 0 10 ∷ fresh Nullification 6 0 10 ∷ []
settled_between = refl

-- what a resolver receives, and which fetches it ends by that

abbrev Answer : Type 0
Answer = Reply ℕ ℕ ℕ ℕ ℕ

abbrev notarized : ℕ → ProposalFacts ℕ
notarized view = record { proposal = proposal view (view - 1) 7; bytes = [] }

abbrev nullified : ℕ → NullificationFacts
nullified view = record { round = round view; bytes = [] }

abbrev received : Answer → CallFacts ℕ → List resolver_call.Call
received answer call = received_by (λ payload. []) (λ certificate. []) answer call

abbrev received_by_steps : List (StepFacts ℕ ℕ ℕ × Answer) → List resolver_call.Call
received_by_steps steps = received_in (λ payload. []) (λ certificate. []) steps

-- a certificate that is new, and not one that was known
received_once : received (reply.Added false None) (AddNotarization (notarized 3)) ≡ []
received_once = refl

received_new : received (reply.Added true None) (AddNotarization (notarized 3)) ≡ resolver_call.Notarization 3 ∷ []
received_new = refl

-- nothing of genesis, which no peer is asked for
genesis : received (reply.AddedNullification true) (AddNullification (nullified 0) 5) ≡ []
genesis = refl

-- nor of a verdict without its notarization
no_verdict : received (reply.Certified true None) (Certified 3 true 5) ≡ []
no_verdict = refl

-- it receives the steps' calls in their order; a pruning passes it nothing
in_order :
    received_by_steps
    ((Calls (AddNotarization (notarized 3)), reply.Added true None) ∷ (Prunes, reply.Unit)
    ∷ (Calls (AddNotarization (notarized 5)), reply.Added true None) ∷ [])
    ≡ resolver_call.Notarization 3 ∷ resolver_call.Notarization 5 ∷ []
in_order = refl

-- a notarization that comes ends the fetch of itself alone, and none of a decision on its view
came : map (λ view. is_notarized Notarization view (resolver_call.Notarization 3)) (2 ∷ 3 ∷ 4 ∷ []) ≡ false ∷ true
    ∷ false ∷ []
came = refl

no_decision : is_notarized Decision 3 (resolver_call.Notarization 3) ≡ false
no_decision = refl

-- what is settled of one kind ends no fetch of another
settled_of_kind : map (λ kind. ends_fetch kind 3 (effect.Settled OfNotarization 3 3))
    (Notarization ∷ Nullification ∷ Decision ∷ []) ≡ true ∷ false ∷ false ∷ []
settled_of_kind = refl

-- a finalization ends the fetches of all views up to its own
ended_by_finalization : map (ended_by (facts_of 5 []) (resolver_call.Finalization 3 [] ∷ []) Decision) (2 ∷ 3 ∷ 4 ∷ [])
    ≡ true
    ∷ true ∷ false ∷ []
ended_by_finalization = refl

-- a nullification ends those of nullifications of its view and of the rest of its term
ended_by_nullification : map (ended_by (facts_of 5 []) (resolver_call.Nullification 3 [] ∷ []) Nullification)
    (2 ∷ 3 ∷ 5 ∷ 6 ∷ []) ≡ false ∷ true ∷ true ∷ false ∷ []
ended_by_nullification = refl

-- a true verdict raises the floor, below which no nullification is wanted; a false one does not
ended_by_verdict : map (ended_by (facts_of 5 []) (resolver_call.Verdict 3 [] true ∷ []) Nullification) (2 ∷ 3 ∷ 4 ∷ [])
    ≡ true
    ∷ true ∷ false ∷ []
ended_by_verdict = refl

ended_by_no_verdict : ended_by (facts_of 5 []) (resolver_call.Verdict 3 [] false ∷ []) Nullification 3 ≡ false
ended_by_no_verdict = refl

-- what a timeout gives

abbrev given : ℕ → Answer → List (Cause ℕ ℕ ℕ ℕ ℕ)
given now answer = reply_causes now answer (NextTimeout now)

due_now : given 100 (reply.Timeout 100 LeaderTimeout) ≡ Expiry ∷ []
due_now = refl

due_later : given 99 (reply.Timeout 100 LeaderTimeout) ≡ []
due_later = refl

-- members

abbrev State : Type 0
State = StateFacts ℕ ℕ ℕ

abbrev Member : Type 0
Member = MemberFacts ℕ ℕ ℕ

-- it is in view 27, in the middle of a term, and has finalized view 20
abbrev state : State
state = record (new_facts settings (Some 0) (0 ∷ 1 ∷ 2 ∷ 3 ∷ []) 1
    (record { term_length = 5; optimistic_views = 0; stall_timeout = None }) true) { current = 27; finalized = 20 }

abbrev member : List Entry → Member
member entries = record {
  life = Some state;
  outstanding_work = no_outstanding_work;
  entries = entries;
  closed = 0;
  is_pruned = false;
  retention = 10;
  least_retention = 10;
}

abbrev failed : Member
failed = record (member []) { life = None }

-- it has heard of the first view of the next term, or of a higher one by its record
next_term : highest_received (member (notarization 29 ∷ [])) state ≡ 31
next_term = refl

beyond : highest_received (member (nullify 27 ∷ finalization 40 ∷ notarization 29 ∷ [])) state ≡ 40
beyond = refl

-- it is to ask for a view above another, and not for that one
above : map (λ view. resolves_above {S = ℕ} {D = ℕ} {K = ℕ} {G = ℕ} {C = ℕ} 31 (Resolve Notarization view 33))
    (31 ∷ 32 ∷ []) ≡ false ∷ true ∷ []
above = refl

-- ten views below the last finalized one are retained, and what lies below them may be forgotten; with a failed member
-- nothing may
kept : forgettable {S = ℕ} {G = ℕ} {C = ℕ} (member []) ≡ WorkItem (Forget 10) ∷ []
kept = refl

all_kept : forgettable {S = ℕ} {G = ℕ} {C = ℕ} failed ≡ []
all_kept = refl

-- nothing is asked for of views up to the finalized one, or once the member has failed
final : map (is_final (member [])) (19 ∷ 20 ∷ 21 ∷ []) ≡ true ∷ true ∷ false ∷ []
final = refl

final_by_failure : is_final failed 21 ≡ true
final_by_failure = refl

-- one that had failed returns that, and otherwise out of memory
failed_before : IsFailure true Failed
failed_before = refl

not_again : IsFailure true OutOfMemory → ⊥
not_again is = cc

fails_now : IsFailure false OutOfMemory
fails_now = refl

not_before : IsFailure false Failed → ⊥
not_before is = cc

-- records

-- the pruning of a record leaves what its state keeps, and what the record's own last finalized view keeps
left : lowest_retained_after (member (finalization 15 ∷ [])) state ≡ 5
left = refl

left_by_state : lowest_retained_after (member (finalization 40 ∷ [])) state ≡ 10
left_by_state = refl

lowest : lowest_of 50 (nullify 27 ∷ finalization 15 ∷ notarization 29 ∷ []) ≡ 15
lowest = refl

-- as many views go as stay: that is not yet more
as_many : map (λ reach. is_far_below reach 20 30) (9 ∷ 10 ∷ []) ≡ true ∷ false ∷ []
as_many = refl

-- two entries of a view are alike where they are of one kind, whatever they say
alike : map (are_alike (verdict 3 true)) (verdict 3 false ∷ verdict 4 true ∷ notarization 3 ∷ []) ≡ true ∷ false ∷ false
    ∷ []
alike = refl

other_votes : are_alike (nullify 3) (finalize 3) ≡ false
other_votes = refl

other_certificates : are_alike (nullification 3) (notarization 3) ≡ false
other_certificates = refl

-- polls of an engine that has settled

-- they return what is queued, in order, and then nothing, however often
returned_in_order : ReturnQueue {A = ℕ} (1 ∷ 2 ∷ []) (Some 1 ∷ Some 2 ∷ None ∷ None ∷ [])
returned_in_order = (refl, (refl, (refl, (refl, tt))))

-- and not nothing before the queue is empty, another output first, or more than was queued
nothing_too_early : ReturnQueue {A = ℕ} (1 ∷ []) (None ∷ []) → ⊥
nothing_too_early (is, rest) = absurd (cc)

another_first : ReturnQueue {A = ℕ} (1 ∷ 2 ∷ []) (Some 2 ∷ []) → ⊥
another_first (is, rest) = absurd (cc)

more_than_queued : ReturnQueue {A = ℕ} (1 ∷ []) (Some 1 ∷ Some 1 ∷ []) → ⊥
more_than_queued (first, (second, rest)) = absurd (cc)
