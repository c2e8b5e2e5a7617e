-- For `views_ahead_are_agreed_on`.
-- The network whose members vote ahead keeps the premises.
use Rattle.std.proofs.Common.{◌≡◌, refl, ℕ, inl, nat_eq, arith}
use Rattle.simplex_types.specs.declared.types.messages.Subject.TheVariants.{Finalize}
use Rattle.simplex_voter.specs.Gaps.{first_unnullified_view}
use Rattle.simplex_voter.specs.Parents.{has_valid_parent_span, ancestry_payload_for_child, parent_payload_for, find_parent, captured_parent_valid, verification_matches}
use Rattle.simplex_voter.specs.Payloads.{explicit_ancestry_payload, optimistic_ancestry_payload, is_handoff_parent, is_voted_ancestor, can_chain_on}
use Rattle.simplex_voter.specs.ProposalRequests.{propose_answer, proposed_answer}
use Rattle.simplex_voter.specs.Rules.{may_notarize, may_nullify, may_finalize, has_conflicting_nullify, required_certification_parent}
use Rattle.simplex_voter.specs.Verification.{standing}
use Rattle.simplex_voter.specs.Windows.{is_admitted, in_issuance_window}
use Rattle.simplex_record.specs.Check.{first_recover_error}
use Rattle.laws_safety.specs.AheadNetwork.{ahead_start, early, following_early, joining, voted_ahead, three}
use Rattle.laws_safety.specs.Replicas.{FewFaulty, Backed, IsNetworkOf}
use Rattle.laws_safety.specs.Executions.{BeginsAs, IsExecution}
use Rattle.laws_safety.specs.ScenarioSteps.{in_turn}
use Rattle.laws_safety.proofs.networks.Continuations.{AreExecutions, network_of, backed_so}
use Rattle.laws_safety.proofs.networks.ScenarioSteps.{replied_in, ran_as_replied}

early_replied : replied_in early ≡ early.replies
unfolding standing propose_answer proposed_answer find_parent captured_parent_valid has_valid_parent_span
    ancestry_payload_for_child first_unnullified_view explicit_ancestry_payload optimistic_ancestry_payload
    is_handoff_parent is_voted_ancestor can_chain_on in_issuance_window is_admitted verification_matches
    parent_payload_for may_notarize may_nullify may_finalize has_conflicting_nullify required_certification_parent
early_replied = refl

following_replied : replied_in following_early ≡ following_early.replies
unfolding standing propose_answer proposed_answer find_parent captured_parent_valid has_valid_parent_span
    ancestry_payload_for_child first_unnullified_view explicit_ancestry_payload optimistic_ancestry_payload
    is_handoff_parent is_voted_ancestor can_chain_on in_issuance_window is_admitted verification_matches
    parent_payload_for may_notarize may_nullify may_finalize has_conflicting_nullify required_certification_parent
following_replied = refl

joining_replied : replied_in joining ≡ joining.replies
unfolding standing propose_answer proposed_answer find_parent captured_parent_valid has_valid_parent_span
    ancestry_payload_for_child first_unnullified_view explicit_ancestry_payload optimistic_ancestry_payload
    is_handoff_parent is_voted_ancestor can_chain_on in_issuance_window is_admitted verification_matches
    parent_payload_for may_notarize may_nullify may_finalize has_conflicting_nullify required_certification_parent
joining_replied = refl

begins : (me : ℕ) → BeginsAs 2 me (ahead_start me).setup
begins me = record { terms = record { terms = refl; some = omega arith }; signs_as = inl refl }

early_ran : IsExecution nat_eq in_turn 2 0 early
unfolding first_recover_error
early_ran = ran_as_replied 2 0 early (begins 0) tt refl tt early_replied

following_ran : IsExecution nat_eq in_turn 2 1 following_early
unfolding first_recover_error
following_ran = ran_as_replied 2 1 following_early (begins 1) tt refl tt following_replied

joining_ran : IsExecution nat_eq in_turn 2 2 joining
unfolding first_recover_error
joining_ran = ran_as_replied 2 2 joining (begins 2) tt refl tt joining_replied

few : FewFaulty voted_ahead
few = inl (omega arith, omega arith)

all_ran : AreExecutions in_turn 2 0 voted_ahead
all_ran = (early_ran, (following_ran, (joining_ran, tt)))

pub ahead_network : IsNetworkOf nat_eq in_turn 2 voted_ahead
ahead_network = network_of in_turn 2 voted_ahead few all_ran refl

pub ahead_finalized : Backed voted_ahead (Finalize three)
ahead_finalized = backed_so voted_ahead (Finalize three) refl
