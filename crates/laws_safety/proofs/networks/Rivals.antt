-- For `rivals_have_faulty_members`, `skipped_finalizations_have_faulty_members`.
-- Networks in which certificates contradict, and who is accountable for it.
use Rattle.std.proofs.Common.{◌≡◌, ◌≢◌, refl, ap, subst, ℕ, zero, suc, inl, inr, Bool, true, ◌&&◌, List, [], ◌∷◌, length, slice_get, Contains, Option, Some, None, nat_eq, arith}
use Rattle.std.specs.List.{list_any}
use Rattle.std.proofs.lemmas.Map.Views.{Contains-from_any}
use Rattle.simplex_types.specs.declared.types.messages.Subject.{Subject}
use Rattle.simplex_types.specs.declared.types.messages.Subject.TheVariants as subject
use Rattle.simplex_voter.specs.Gaps.{first_unnullified_view}
use Rattle.simplex_voter.specs.Parents.{has_valid_parent_span, ancestry_payload_for_child, parent_payload_for, verification_matches}
use Rattle.simplex_voter.specs.Payloads.{explicit_ancestry_payload}
use Rattle.simplex_voter.specs.Rules.{may_notarize, may_nullify, may_finalize, has_conflicting_nullify, required_certification_parent}
use Rattle.simplex_voter.specs.Verification.{standing}
use Rattle.simplex_voter.specs.Windows.{is_admitted, in_issuance_window}
use Rattle.simplex_voter.proofs.Gaps.{and_parts}
use Rattle.simplex_record.specs.Check.{first_recover_error}
use Rattle.laws_safety.specs.Accountability.{AcceptCertified, MayBeCertified, MayHaveVoted, HasAcceptedNearer, IsBackedNetwork}
use Rattle.laws_safety.specs.Traces.{TraceEvent, Accepts, Signs}
use Rattle.laws_safety.specs.DividedNetwork.{rival}
use Rattle.laws_safety.specs.Replicas.{quorum, Backed}
use Rattle.laws_safety.specs.Rivals.{voting_for, two_proposals, known_of_two_proposals, past_two, misled, skipped_over, known_of_skipped}
use Rattle.laws_safety.specs.Scripts.{leader}
use Rattle.laws_safety.specs.Executions.{trace_of, IsExecution}
use Rattle.laws_safety.specs.ScenarioSteps.{round, one, two}
use Rattle.laws_safety.proofs.networks.ComputedRuns.{fits_run_from, each_begins, replied_from}
use Rattle.laws_safety.proofs.networks.Continuations.{same_trace_event, same_trace_event-true, each_one, each_one-true, enough, enough-true, passes, backed_network_of, backed_so}
use Rattle.laws_safety.proofs.networks.Scripts.{begins, skipping_ran_1}

-- tests of what is known of members

abbrev may_have_voted : Subject ℕ → ℕ → Option (List (TraceEvent ℕ)) → Bool
may_have_voted vote i None = true
may_have_voted vote i (Some trace) = list_any (same_trace_event (Signs i vote)) trace

voted_so : (vote : Subject ℕ) (i : ℕ) (known : Option (List (TraceEvent ℕ))) → may_have_voted vote i known ≡ true
    → MayHaveVoted vote i known
voted_so vote i None is = tt
voted_so vote i (Some trace) is = Contains-from_any same_trace_event-true (Signs i vote) trace is

abbrev may_be_certified : List (Option (List (TraceEvent ℕ))) → Subject ℕ → Bool
may_be_certified members vote = enough 0 (quorum (length members)) (may_have_voted vote) members

pub certified_so : (members : List (Option (List (TraceEvent ℕ)))) (vote : Subject ℕ)
    → may_be_certified members vote ≡ true → MayBeCertified members vote
certified_so members vote is = enough-true (MayHaveVoted vote) (may_have_voted vote) (voted_so vote) 0
    (quorum (length members)) members is

abbrev each_known : (Subject ℕ → Bool) → List (Option (List (TraceEvent ℕ))) → Bool
each_known test [] = true
each_known test (None ∷ members) = each_known test members
each_known test (Some trace ∷ members) = each_one (passes test) trace && each_known test members

known_so : (test : Subject ℕ → Bool) (members : List (Option (List (TraceEvent ℕ)))) → each_known test members ≡ true
    → (i : ℕ) (trace : List (TraceEvent ℕ)) (c : Subject ℕ) → slice_get members i ≡ Some (Some trace)
    → Contains trace (Accepts c) → test c ≡ true
known_so test [] is i trace c at h = absurd (cc)
known_so test (None ∷ members) is zero trace c at h = absurd (cc)
known_so test (None ∷ members) is (suc i) trace c at h = known_so test members is i trace c at h
known_so test (Some done ∷ members) is zero trace c at h =
    let same : trace ≡ done = cc in
    each_one-true (passes test) done (and_parts (each_one (passes test) done) (each_known test members) is).0
    (Accepts c) (subst (λ ds. Contains ds (Accepts c)) same h)
known_so test (Some done ∷ members) is (suc i) trace c at h =
    known_so test members (and_parts (each_one (passes test) done) (each_known test members) is).1 i trace c at h

accept_so : (members : List (Option (List (TraceEvent ℕ)))) → each_known (may_be_certified members) members ≡ true
    → AcceptCertified members
accept_so members is i trace c at h = certified_so members c
    (known_so (may_be_certified members) members is i trace c at h)

-- the members ran

first_replied : replied_from nat_eq leader (voting_for one 0) ≡ (voting_for one 0).replies
unfolding standing has_valid_parent_span ancestry_payload_for_child first_unnullified_view explicit_ancestry_payload
    in_issuance_window is_admitted verification_matches parent_payload_for may_notarize may_nullify may_finalize
    has_conflicting_nullify required_certification_parent
first_replied = refl

second_replied : replied_from nat_eq leader (voting_for rival 1) ≡ (voting_for rival 1).replies
unfolding standing has_valid_parent_span ancestry_payload_for_child first_unnullified_view explicit_ancestry_payload
    in_issuance_window is_admitted verification_matches parent_payload_for may_notarize may_nullify may_finalize
    has_conflicting_nullify required_certification_parent
second_replied = refl

misled_replied : replied_from nat_eq leader misled ≡ misled.replies
unfolding standing has_valid_parent_span ancestry_payload_for_child first_unnullified_view explicit_ancestry_payload
    in_issuance_window is_admitted verification_matches parent_payload_for may_notarize may_nullify may_finalize
    has_conflicting_nullify required_certification_parent
misled_replied = refl

first_ran : IsExecution nat_eq leader 5 0 (voting_for one 0)
unfolding first_recover_error
first_ran = record {
  lives = record {
    first = begins 5 0 (voting_for one 0).start.floor (omega arith);
    later = each_begins 5 0 (voting_for one 0).steps tt;
  };
  run = fits_run_from nat_eq leader (voting_for one 0) refl tt first_replied;
}

second_ran : IsExecution nat_eq leader 5 1 (voting_for rival 1)
unfolding first_recover_error
second_ran = record {
  lives = record {
    first = begins 5 1 (voting_for rival 1).start.floor (omega arith);
    later = each_begins 5 1 (voting_for rival 1).steps tt;
  };
  run = fits_run_from nat_eq leader (voting_for rival 1) refl tt second_replied;
}

misled_ran : IsExecution nat_eq leader 1 0 misled
unfolding first_recover_error
misled_ran = record {
  lives = record { first = begins 1 0 misled.start.floor (omega arith); later = each_begins 1 0 misled.steps tt };
  run = fits_run_from nat_eq leader misled refl tt misled_replied;
}

-- two proposals of one view

pub two_proposals_network : IsBackedNetwork nat_eq leader 5 two_proposals
two_proposals_network = backed_network_of leader 5 two_proposals (first_ran, (second_ran, tt)) refl

pub are_two : one ≢ rival
are_two same = (let payloads : 1 ≡ 9 = ap (λ p. p.payload) same in omega (arith, payloads))

pub one_backed : Backed two_proposals (subject.Notarize one)
one_backed = backed_so two_proposals (subject.Notarize one) refl

pub rival_backed : Backed two_proposals (subject.Notarize rival)
rival_backed = backed_so two_proposals (subject.Notarize rival) refl

pub known_two_accept : AcceptCertified known_of_two_proposals
known_two_accept = accept_so known_of_two_proposals refl

-- a finalized view that is skipped

pub skipped_over_network : IsBackedNetwork nat_eq leader 1 skipped_over
skipped_over_network = backed_network_of leader 1 skipped_over (misled_ran, (skipping_ran_1, tt)) refl

pub past_two_backed : Backed skipped_over (subject.Notarize past_two)
past_two_backed = backed_so skipped_over (subject.Notarize past_two) refl

pub two_finalized : Backed skipped_over (subject.Finalize two)
two_finalized = backed_so skipped_over (subject.Finalize two) refl

pub known_skipped_accept : AcceptCertified known_of_skipped
known_skipped_accept = accept_so known_of_skipped refl

pub misled_by_nullification : (nearer : HasAcceptedNearer 1 (subject.Notarize past_two) (subject.Finalize two)
    (trace_of misled)) × (nearer.third ≡ subject.Nullify (round 2))
misled_by_nullification = (
  record {
    third = subject.Nullify (round 2);
    before = Signs 0 (subject.Notarize one)
        ∷ Accepts (subject.Notarize one)
        ∷ Signs 0 (subject.Notarize two)
        ∷ Accepts (subject.Notarize two)
        ∷ Signs 0 (subject.Finalize two)
        ∷ Accepts (subject.Nullify (round 2))
        ∷ [];
    signs = inl (0, [], refl);
    accepted = (5, omega arith, refl);
    nearer = inr (refl, omega arith);
  },
  refl,
)
