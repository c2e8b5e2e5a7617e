-- For `nullified_handoffs_are_left`.
-- The network whose handoff is nullified continues.
use Rattle.std.proofs.Common.{◌≡◌, refl, ℕ, inl, inr, true, Contains, ◌≤◌, nat_eq, arith}
use Rattle.std.proofs.lemmas.Bool.{ltb-true}
use Rattle.simplex_types.specs.declared.types.messages.Proposal.{Proposal}
use Rattle.simplex_types.specs.declared.types.messages.Subject.TheVariants.{Notarize}
use Rattle.simplex_voter.specs.Gaps.{first_unnullified_view}
use Rattle.simplex_voter.specs.Parents.{has_valid_parent_span, ancestry_payload_for_child, parent_payload_for, find_parent, captured_parent_valid, verification_matches}
use Rattle.simplex_voter.specs.Payloads.{explicit_ancestry_payload, optimistic_ancestry_payload, is_handoff_parent, is_voted_ancestor, can_chain_on}
use Rattle.simplex_voter.specs.ProposalRequests.{propose_answer, proposed_answer}
use Rattle.simplex_voter.specs.Rules.{may_notarize, may_nullify, may_finalize, has_conflicting_nullify, required_certification_parent}
use Rattle.simplex_voter.specs.Verification.{standing}
use Rattle.simplex_voter.specs.Windows.{is_admitted, in_issuance_window}
use Rattle.simplex_record.specs.Check.{first_recover_error}
use Rattle.laws_safety.specs.Continuations.{and_then, HasSignedAs, ReplicasContinue, ContinuesToFinalize}
use Rattle.laws_safety.specs.HandoffNetwork.{handed_over, takes_over, can_not_verify, taken_over, leads_past_handoff, follows_past_handoff, gone_on, after_handoff}
use Rattle.laws_safety.specs.Traces.{Signs}
use Rattle.laws_safety.specs.Replicas.{FewFaulty, Backed, IsNetworkOf}
use Rattle.laws_safety.specs.Executions.{Execution, trace_of, IsExecution}
use Rattle.laws_safety.specs.ScenarioSteps.{in_turn}
use Rattle.laws_safety.proofs.networks.Continuations.{done, each_one, each_one-true, notarizes_below, AreExecutions, all_ran_before, network_of, goes_on_so}
use Rattle.laws_safety.proofs.networks.ScenarioSteps.{begins, replied_in, ran_as_replied}

abbrev left_first : Execution ℕ ℕ ℕ
left_first = and_then takes_over (follows_past_handoff 0)

abbrev left_second : Execution ℕ ℕ ℕ
left_second = and_then (can_not_verify 1) (leads_past_handoff 1)

abbrev left_third : Execution ℕ ℕ ℕ
left_third = and_then (can_not_verify 2) (follows_past_handoff 2)

left_first_replied : replied_in left_first ≡ left_first.replies
unfolding standing propose_answer proposed_answer find_parent captured_parent_valid has_valid_parent_span
    ancestry_payload_for_child first_unnullified_view explicit_ancestry_payload optimistic_ancestry_payload
    is_handoff_parent is_voted_ancestor can_chain_on in_issuance_window is_admitted verification_matches
    parent_payload_for may_notarize may_nullify may_finalize has_conflicting_nullify required_certification_parent
left_first_replied = refl

left_second_replied : replied_in left_second ≡ left_second.replies
unfolding standing propose_answer proposed_answer find_parent captured_parent_valid has_valid_parent_span
    ancestry_payload_for_child first_unnullified_view explicit_ancestry_payload optimistic_ancestry_payload
    is_handoff_parent is_voted_ancestor can_chain_on in_issuance_window is_admitted verification_matches
    parent_payload_for may_notarize may_nullify may_finalize has_conflicting_nullify required_certification_parent
left_second_replied = refl

left_third_replied : replied_in left_third ≡ left_third.replies
unfolding standing propose_answer proposed_answer find_parent captured_parent_valid has_valid_parent_span
    ancestry_payload_for_child first_unnullified_view explicit_ancestry_payload optimistic_ancestry_payload
    is_handoff_parent is_voted_ancestor can_chain_on in_issuance_window is_admitted verification_matches
    parent_payload_for may_notarize may_nullify may_finalize has_conflicting_nullify required_certification_parent
left_third_replied = refl

left_first_ran : IsExecution nat_eq in_turn 2 0 left_first
unfolding first_recover_error
left_first_ran = ran_as_replied 2 0 left_first (begins 2 0 (omega arith)) tt refl tt left_first_replied

left_second_ran : IsExecution nat_eq in_turn 2 1 left_second
unfolding first_recover_error
left_second_ran = ran_as_replied 2 1 left_second (begins 2 1 (omega arith)) tt refl tt left_second_replied

left_third_ran : IsExecution nat_eq in_turn 2 2 left_third
unfolding first_recover_error
left_third_ran = ran_as_replied 2 2 left_third (begins 2 2 (omega arith)) tt refl tt left_third_replied

few : FewFaulty taken_over
few = inl (omega arith, omega arith)

later_few : FewFaulty gone_on
later_few = inl (omega arith, omega arith)

goes : ReplicasContinue taken_over gone_on
goes = ((follows_past_handoff 0, refl), ((leads_past_handoff 1, refl), ((follows_past_handoff 2, refl), tt)))

all_ran : AreExecutions in_turn 2 0 gone_on
all_ran = (left_first_ran, (left_second_ran, (left_third_ran, tt)))

pub taken_over_network : IsNetworkOf nat_eq in_turn 2 taken_over
taken_over_network = network_of in_turn 2 taken_over few
    (all_ran_before in_turn 2 0 taken_over gone_on refl goes all_ran) refl

pub taken_over_goes_on : ContinuesToFinalize nat_eq in_turn 2 taken_over gone_on after_handoff
taken_over_goes_on = goes_on_so in_turn 2 taken_over gone_on after_handoff few later_few goes all_ran
    (record { backed = refl; certificates = refl; proposals = refl; finalized = refl; new = refl })

-- no proposal above view 1 has votes enough: at most that of the leader

voted_below : (me : ℕ) → each_one (notarizes_below 2) (trace_of (can_not_verify me)) ≡ true → (p : Proposal ℕ)
    → 2 ≤ p.round.view → Contains (trace_of (can_not_verify me)) (Signs me (Notarize p)) → ⊥
voted_below me below p high h =
    let low = ltb-true p.round.view 2
    (each_one-true (notarizes_below 2) (trace_of (can_not_verify me)) below (Signs me (Notarize p)) h) in
    omega arith

pub none_notarized : (p : Proposal ℕ) → 2 ≤ p.round.view → Backed taken_over (Notarize p) → ⊥
none_notarized p high (inl (first, inl (second, rest))) = voted_below 1 refl p high second
none_notarized p high (inl (first, inr (inl (third, rest)))) = voted_below 2 refl p high third
none_notarized p high (inl (first, inr (inr (inl (any, rest))))) = rest
none_notarized p high (inl (first, inr (inr (inr rest)))) = rest
none_notarized p high (inr (inl (second, rest))) = voted_below 1 refl p high second
none_notarized p high (inr (inr (inl (third, rest)))) = voted_below 2 refl p high third
none_notarized p high (inr (inr (inr (inl (any, rest))))) = rest
none_notarized p high (inr (inr (inr (inr rest)))) = rest

pub leader_voted : HasSignedAs (Notarize handed_over) 0 takes_over
leader_voted = done (Signs 0 (Notarize handed_over)) takes_over refl
