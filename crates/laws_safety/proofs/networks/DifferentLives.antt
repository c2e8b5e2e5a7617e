-- For `lifetimes_may_differ`, `refusals_accept_nothing`.
-- A member that refuses much, and one whose lifetimes differ, run with these replies.
use Rattle.std.proofs.Common.{◌≡◌, refl, ℕ, inl, inr, true, false, List, [], ◌∷◌, ◌++◌, nat_eq, arith}
use Rattle.simplex_types.specs.Certificates.{ArtifactFacts, NullifyVote, FinalizeVote, Verdict, Accepted, Notarized, Nullified, Finalized as CertifiedFinal}
use Rattle.simplex_voter.specs.Gaps.{first_unnullified_view}
use Rattle.simplex_voter.specs.Parents.{has_valid_parent_span, ancestry_payload_for_child, parent_payload_for, verification_matches}
use Rattle.simplex_voter.specs.Payloads.{explicit_ancestry_payload, optimistic_ancestry_payload, is_handoff_parent, is_voted_ancestor, can_chain_on}
use Rattle.simplex_voter.specs.Rules.{may_notarize, may_nullify, may_finalize, has_conflicting_nullify, required_certification_parent}
use Rattle.simplex_voter.specs.Verification.{standing}
use Rattle.simplex_voter.specs.Windows.{is_admitted, in_issuance_window}
use Rattle.simplex_record.specs.Check.{first_recover_error}
use Rattle.simplex_record.specs.Cuts.{may_drop, pruned_entries}
use Rattle.simplex_record.specs.Entries.{entry_view}
use Rattle.simplex_record.specs.Recovery.{recovered_state, after_kept_entry}
use Rattle.laws_safety.specs.ChangedSettings.{wider_start, refusing, keyless_start, other_start, changing, with_refusing, abandoning, with_changing}
use Rattle.laws_safety.specs.Replicas.{FewFaulty, IsNetworkOf}
use Rattle.laws_safety.specs.Scripts.{leader, patient}
use Rattle.laws_safety.specs.Executions.{new_member, Execution, BeginsAs, IsExecution}
use Rattle.laws_safety.specs.ScenarioSteps.{round, certificate, nullification, one, two}
use Rattle.laws_safety.proofs.networks.Continuations.{network_of}
use Rattle.laws_safety.proofs.networks.Scripts.{patient_ran}
use Rattle.laws_safety.proofs.networks.ComputedRuns.{FindsRisingRecords, fits_run_from, rises, each_begins, replied_from}

-- the replies to the steps, and that the record rises at each restart
abbrev FitsFrom : Execution ℕ ℕ ℕ → Type 0
FitsFrom s = FindsRisingRecords nat_eq leader (new_member nat_eq leader s.start) s.steps

refusing_replied : replied_from nat_eq leader refusing ≡ refusing.replies
unfolding first_recover_error recovered_state after_kept_entry may_drop pruned_entries has_valid_parent_span
    ancestry_payload_for_child first_unnullified_view explicit_ancestry_payload in_issuance_window is_admitted
    verification_matches parent_payload_for may_notarize may_nullify may_finalize has_conflicting_nullify
    required_certification_parent
refusing_replied = refl

-- the record that remains at the first two restarts, and at the others
abbrev finalized_first : List (ArtifactFacts ℕ)
finalized_first = Accepted (Notarized (certificate one)) ∷ Verdict (round 1) true ∷ FinalizeVote one 1 ∷ Accepted
    (CertifiedFinal (certificate one)) ∷ []

abbrev notarized_second : List (ArtifactFacts ℕ)
notarized_second = finalized_first ++ Accepted (Notarized (certificate two)) ∷ []

refusing_fits : FitsFrom refusing
unfolding first_recover_error recovered_state after_kept_entry may_drop pruned_entries has_valid_parent_span
    ancestry_payload_for_child first_unnullified_view explicit_ancestry_payload in_issuance_window is_admitted
    verification_matches parent_payload_for may_notarize may_nullify may_finalize has_conflicting_nullify
    required_certification_parent
refusing_fits = (
  rises entry_view 0 finalized_first refl,
  (
    rises entry_view 0 finalized_first refl,
    (rises entry_view 0 notarized_second refl, (rises entry_view 0 notarized_second refl, tt)),
  ),
)

pub refusing_ran : IsExecution nat_eq leader 5 1 refusing
unfolding first_recover_error
refusing_ran =
    let begins : BeginsAs 5 1 refusing.start.setup =
    record { terms = record { terms = refl; some = omega arith }; signs_as = inl refl } in
    let wider : BeginsAs 5 1 wider_start.setup =
    record { terms = record { terms = refl; some = omega arith }; signs_as = inl refl } in
    record {
      lives =
          record { first = begins; later = each_begins 5 1 refusing.steps (begins, (wider, (begins, (begins, tt)))) };
      run = fits_run_from nat_eq leader refusing refl refusing_fits refusing_replied;
    }

changing_replied : replied_from nat_eq leader changing ≡ changing.replies
unfolding first_recover_error recovered_state after_kept_entry may_drop pruned_entries standing has_valid_parent_span
    ancestry_payload_for_child first_unnullified_view explicit_ancestry_payload in_issuance_window is_admitted
    verification_matches parent_payload_for may_notarize may_nullify may_finalize has_conflicting_nullify
    required_certification_parent optimistic_ancestry_payload is_handoff_parent is_voted_ancestor can_chain_on
changing_replied = refl

-- the record that remains at the first restart, and at the others
abbrev without_votes : List (ArtifactFacts ℕ)
without_votes = Accepted (Notarized (certificate one)) ∷ Verdict (round 1) true ∷ []

abbrev with_a_vote : List (ArtifactFacts ℕ)
with_a_vote =
    without_votes
    ++ Accepted (CertifiedFinal (certificate one))
    ∷ NullifyVote (round 2) 1
    ∷ Accepted (Notarized (certificate two))
    ∷ Verdict (round 2) false
    ∷ Accepted (Nullified (nullification 2))
    ∷ []

changing_fits : FitsFrom changing
unfolding first_recover_error recovered_state after_kept_entry may_drop pruned_entries standing has_valid_parent_span
    ancestry_payload_for_child first_unnullified_view explicit_ancestry_payload in_issuance_window is_admitted
    verification_matches parent_payload_for may_notarize may_nullify may_finalize has_conflicting_nullify
    required_certification_parent optimistic_ancestry_payload is_handoff_parent is_voted_ancestor can_chain_on
changing_fits = (
  rises entry_view 0 without_votes refl,
  (rises entry_view 0 with_a_vote refl, (rises entry_view 0 with_a_vote refl, tt)),
)

pub changing_ran : IsExecution nat_eq leader 5 1 changing
unfolding first_recover_error
changing_ran =
    let keyless : BeginsAs 5 1 keyless_start.setup =
    record { terms = record { terms = refl; some = omega arith }; signs_as = inr refl } in
    let other : BeginsAs 5 1 other_start.setup =
    record { terms = record { terms = refl; some = omega arith }; signs_as = inl refl } in
    let begins : BeginsAs 5 1 refusing.start.setup =
    record { terms = record { terms = refl; some = omega arith }; signs_as = inl refl } in
    record {
      lives = record { first = keyless; later = each_begins 5 1 changing.steps (other, (keyless, (begins, tt))) };
      run = fits_run_from nat_eq leader changing refl changing_fits changing_replied;
    }

-- the networks that they are members of

patient_replied_0 : replied_from nat_eq leader (patient 0) ≡ (patient 0).replies
unfolding standing has_valid_parent_span ancestry_payload_for_child first_unnullified_view explicit_ancestry_payload
    in_issuance_window is_admitted verification_matches parent_payload_for may_notarize may_nullify may_finalize
    has_conflicting_nullify required_certification_parent
patient_replied_0 = refl

patient_replied_2 : replied_from nat_eq leader (patient 2) ≡ (patient 2).replies
unfolding standing has_valid_parent_span ancestry_payload_for_child first_unnullified_view explicit_ancestry_payload
    in_issuance_window is_admitted verification_matches parent_payload_for may_notarize may_nullify may_finalize
    has_conflicting_nullify required_certification_parent
patient_replied_2 = refl

giving_up_replied : replied_from nat_eq leader abandoning ≡ abandoning.replies
unfolding standing has_valid_parent_span ancestry_payload_for_child first_unnullified_view explicit_ancestry_payload
    in_issuance_window is_admitted verification_matches parent_payload_for may_notarize may_nullify may_finalize
    has_conflicting_nullify required_certification_parent
giving_up_replied = refl

giving_up_ran : IsExecution nat_eq leader 5 0 abandoning
unfolding first_recover_error
giving_up_ran =
    let begins : BeginsAs 5 0 abandoning.start.setup =
    record { terms = record { terms = refl; some = omega arith }; signs_as = inl refl } in
    record {
      lives = record { first = begins; later = each_begins 5 0 abandoning.steps tt };
      run = fits_run_from nat_eq leader abandoning refl tt giving_up_replied;
    }

few_with_refusing : FewFaulty with_refusing
few_with_refusing = inl (omega arith, omega arith)

pub refusing_network : IsNetworkOf nat_eq leader 5 with_refusing
refusing_network = network_of leader 5 with_refusing few_with_refusing
    (patient_ran 0 patient_replied_0, (refusing_ran, (patient_ran 2 patient_replied_2, tt))) refl

few_with_changing : FewFaulty with_changing
few_with_changing = inl (omega arith, omega arith)

pub changing_network : IsNetworkOf nat_eq leader 5 with_changing
changing_network = network_of leader 5 with_changing few_with_changing
    (giving_up_ran, (changing_ran, (patient_ran 2 patient_replied_2, tt))) refl
