-- For `gaps_are_closed`.
-- The network in which certificates are missing continues.
use Rattle.std.proofs.Common.{◌≡◌, refl, ℕ, inl, nat_eq, arith}
use Rattle.simplex_types.specs.declared.types.messages.Subject.TheVariants.{Notarize, Nullify}
use Rattle.simplex_voter.specs.Gaps.{first_unnullified_view}
use Rattle.simplex_voter.specs.Parents.{has_valid_parent_span, ancestry_payload_for_child, parent_payload_for, find_parent, captured_parent_valid, verification_matches}
use Rattle.simplex_voter.specs.Payloads.{explicit_ancestry_payload, optimistic_ancestry_payload, is_handoff_parent, is_voted_ancestor, can_chain_on}
use Rattle.simplex_voter.specs.ProposalRequests.{propose_answer, proposed_answer}
use Rattle.simplex_voter.specs.Rules.{may_notarize, may_nullify, may_finalize, has_conflicting_nullify, required_certification_parent}
use Rattle.simplex_voter.specs.Verification.{standing}
use Rattle.simplex_voter.specs.Windows.{is_admitted, in_issuance_window}
use Rattle.simplex_record.specs.Check.{first_recover_error}
use Rattle.laws_safety.specs.Continuations.{and_then, HasAccepted, ReplicasContinue, ContinuesToFinalize}
use Rattle.laws_safety.specs.MissingCertificatesNetwork.{lacks_nullification, skips_two, member_without_notarization, missing_certificates, finishes, has_nullification, has_notarization, supplied, over_two}
use Rattle.laws_safety.specs.Replicas.{FewFaulty, IsNetworkOf}
use Rattle.laws_safety.specs.ScenarioSteps.{round, one, in_turn}
use Rattle.laws_safety.specs.Executions.{Execution, IsExecution}
use Rattle.laws_safety.proofs.networks.Continuations.{not_accepted, AreExecutions, all_ran_before, network_of, goes_on_so}
use Rattle.laws_safety.proofs.networks.ScenarioSteps.{begins, replied_in, ran_as_replied}

abbrev supplied_first : Execution ℕ ℕ ℕ
supplied_first = and_then lacks_nullification has_nullification

abbrev supplied_second : Execution ℕ ℕ ℕ
supplied_second = and_then skips_two (finishes 1)

abbrev supplied_third : Execution ℕ ℕ ℕ
supplied_third = and_then member_without_notarization has_notarization

supplied_first_replied : replied_in supplied_first ≡ supplied_first.replies
unfolding standing propose_answer proposed_answer find_parent captured_parent_valid has_valid_parent_span
    ancestry_payload_for_child first_unnullified_view explicit_ancestry_payload optimistic_ancestry_payload
    is_handoff_parent is_voted_ancestor can_chain_on in_issuance_window is_admitted verification_matches
    parent_payload_for may_notarize may_nullify may_finalize has_conflicting_nullify required_certification_parent
supplied_first_replied = refl

supplied_second_replied : replied_in supplied_second ≡ supplied_second.replies
unfolding standing propose_answer proposed_answer find_parent captured_parent_valid has_valid_parent_span
    ancestry_payload_for_child first_unnullified_view explicit_ancestry_payload optimistic_ancestry_payload
    is_handoff_parent is_voted_ancestor can_chain_on in_issuance_window is_admitted verification_matches
    parent_payload_for may_notarize may_nullify may_finalize has_conflicting_nullify required_certification_parent
supplied_second_replied = refl

supplied_third_replied : replied_in supplied_third ≡ supplied_third.replies
unfolding standing propose_answer proposed_answer find_parent captured_parent_valid has_valid_parent_span
    ancestry_payload_for_child first_unnullified_view explicit_ancestry_payload optimistic_ancestry_payload
    is_handoff_parent is_voted_ancestor can_chain_on in_issuance_window is_admitted verification_matches
    parent_payload_for may_notarize may_nullify may_finalize has_conflicting_nullify required_certification_parent
supplied_third_replied = refl

supplied_first_ran : IsExecution nat_eq in_turn 1 0 supplied_first
unfolding first_recover_error
supplied_first_ran = ran_as_replied 1 0 supplied_first (begins 1 0 (omega arith)) tt refl tt supplied_first_replied

supplied_second_ran : IsExecution nat_eq in_turn 1 1 supplied_second
unfolding first_recover_error
supplied_second_ran = ran_as_replied 1 1 supplied_second (begins 1 1 (omega arith)) tt refl tt supplied_second_replied

supplied_third_ran : IsExecution nat_eq in_turn 1 2 supplied_third
unfolding first_recover_error
supplied_third_ran = ran_as_replied 1 2 supplied_third (begins 1 2 (omega arith)) tt refl tt supplied_third_replied

few : FewFaulty missing_certificates
few = inl (omega arith, omega arith)

later_few : FewFaulty supplied
later_few = inl (omega arith, omega arith)

goes : ReplicasContinue missing_certificates supplied
goes = ((has_nullification, refl), ((finishes 1, refl), ((has_notarization, refl), tt)))

all_ran : AreExecutions in_turn 1 0 supplied
all_ran = (supplied_first_ran, (supplied_second_ran, (supplied_third_ran, tt)))

pub lacking_network : IsNetworkOf nat_eq in_turn 1 missing_certificates
lacking_network = network_of in_turn 1 missing_certificates few
    (all_ran_before in_turn 1 0 missing_certificates supplied refl goes all_ran) refl

pub lacking_goes_on : ContinuesToFinalize nat_eq in_turn 1 missing_certificates supplied over_two
lacking_goes_on = goes_on_so in_turn 1 missing_certificates supplied over_two few later_few goes all_ran
    (record { backed = refl; certificates = refl; proposals = refl; finalized = refl; new = refl })

-- the certificates that two members have not accepted

pub none_skipped : HasAccepted (Nullify (round 2)) 0 lacks_nullification → ⊥
none_skipped h = not_accepted (Nullify (round 2)) lacks_nullification refl refl h

pub none_notarized : HasAccepted (Notarize one) 2 member_without_notarization → ⊥
none_notarized h = not_accepted (Notarize one) member_without_notarization refl refl h
