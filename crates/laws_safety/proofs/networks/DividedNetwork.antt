-- For `conflicts_are_left`.
-- The network whose first leader proposes twice continues.
use Rattle.std.proofs.Common.{◌≡◌, refl, ℕ, inl, inr, List, [], ◌∷◌, Contains, nat_eq, arith}
use Rattle.simplex_types.specs.Certificates.{ArtifactFacts, NotarizeVote}
use Rattle.simplex_types.specs.declared.types.messages.Proposal.{Proposal}
use Rattle.simplex_types.specs.declared.types.messages.Subject.TheVariants.{Notarize}
use Rattle.simplex_types.specs.declared.reasons.TimeoutReason.TheVariants.{LeaderTimeout, CertificationTimeout}
use Rattle.simplex_voter.specs.Gaps.{first_unnullified_view}
use Rattle.simplex_voter.specs.Parents.{has_valid_parent_span, ancestry_payload_for_child, parent_payload_for, find_parent, captured_parent_valid, verification_matches}
use Rattle.simplex_voter.specs.Payloads.{explicit_ancestry_payload}
use Rattle.simplex_voter.specs.ProposalRequests.{propose_answer, proposed_answer}
use Rattle.simplex_voter.specs.Rules.{may_notarize, may_nullify, may_finalize, has_conflicting_nullify, required_certification_parent}
use Rattle.simplex_voter.specs.Verification.{standing}
use Rattle.simplex_voter.specs.Windows.{is_admitted, in_issuance_window}
use Rattle.simplex_record.specs.Check.{first_recover_error}
use Rattle.simplex_record.specs.Cuts.{may_drop, pruned_entries}
use Rattle.simplex_record.specs.Entries.{entry_view}
use Rattle.simplex_record.specs.Recovery.{recovered_state, after_kept_entry}
use Rattle.laws_safety.specs.DividedNetwork.{rival, deceived, warned, divided, after_conflict, leads_past_conflict, follows_past_conflict, united}
use Rattle.laws_safety.specs.Continuations.{and_then, ReplicasContinue, ContinuesToFinalize}
use Rattle.laws_safety.specs.Traces.{TraceEvent, Signs}
use Rattle.laws_safety.specs.Replicas.{FewFaulty, Backed, IsNetworkOf}
use Rattle.laws_safety.specs.ScenarioSteps.{one, in_turn}
use Rattle.laws_safety.specs.Executions.{Execution, trace_of, IsExecution}
use Rattle.laws_safety.proofs.networks.ComputedRuns.{rises}
use Rattle.laws_safety.proofs.networks.Continuations.{AreExecutions, all_ran_before, network_of, goes_on_so}
use Rattle.laws_safety.proofs.networks.ScenarioSteps.{begins, replied_in, FitsIn, ran_as_replied}
use Rattle.laws_safety.proofs.lists.Splits.{only_one}

abbrev leading : Execution ℕ ℕ ℕ
leading = and_then (deceived 0 one rival) (leads_past_conflict 0 2000 CertificationTimeout)

abbrev following : Execution ℕ ℕ ℕ
following = and_then (deceived 1 rival one) (follows_past_conflict 1 2000 CertificationTimeout)

abbrev forgetting : Execution ℕ ℕ ℕ
forgetting = and_then (warned 2) (follows_past_conflict 2 1000 LeaderTimeout)

leading_replied : replied_in leading ≡ leading.replies
unfolding first_recover_error recovered_state after_kept_entry may_drop pruned_entries standing propose_answer
    proposed_answer find_parent captured_parent_valid has_valid_parent_span ancestry_payload_for_child
    first_unnullified_view explicit_ancestry_payload in_issuance_window is_admitted verification_matches
    parent_payload_for may_notarize may_nullify may_finalize has_conflicting_nullify required_certification_parent
leading_replied = refl

following_replied : replied_in following ≡ following.replies
unfolding first_recover_error recovered_state after_kept_entry may_drop pruned_entries standing has_valid_parent_span
    ancestry_payload_for_child first_unnullified_view explicit_ancestry_payload in_issuance_window is_admitted
    verification_matches parent_payload_for may_notarize may_nullify may_finalize has_conflicting_nullify
    required_certification_parent
following_replied = refl

forgetting_replied : replied_in forgetting ≡ forgetting.replies
unfolding first_recover_error recovered_state after_kept_entry may_drop pruned_entries standing has_valid_parent_span
    ancestry_payload_for_child first_unnullified_view explicit_ancestry_payload in_issuance_window is_admitted
    verification_matches parent_payload_for may_notarize may_nullify may_finalize has_conflicting_nullify
    required_certification_parent
forgetting_replied = refl

-- the record that is left at a restart: a vote, or nothing
abbrev with_vote : List (ArtifactFacts ℕ)
with_vote = NotarizeVote one 0 ∷ []

abbrev with_other_vote : List (ArtifactFacts ℕ)
with_other_vote = NotarizeVote rival 1 ∷ []

abbrev with_none : List (ArtifactFacts ℕ)
with_none = []

leading_fits : FitsIn leading
unfolding first_recover_error recovered_state after_kept_entry may_drop pruned_entries standing propose_answer
    proposed_answer find_parent captured_parent_valid has_valid_parent_span ancestry_payload_for_child
    first_unnullified_view explicit_ancestry_payload in_issuance_window is_admitted verification_matches
    parent_payload_for may_notarize may_nullify may_finalize has_conflicting_nullify required_certification_parent
leading_fits = (rises entry_view 0 with_vote refl, tt)

following_fits : FitsIn following
unfolding first_recover_error recovered_state after_kept_entry may_drop pruned_entries standing has_valid_parent_span
    ancestry_payload_for_child first_unnullified_view explicit_ancestry_payload in_issuance_window is_admitted
    verification_matches parent_payload_for may_notarize may_nullify may_finalize has_conflicting_nullify
    required_certification_parent
following_fits = (rises entry_view 0 with_other_vote refl, tt)

forgetting_fits : FitsIn forgetting
unfolding first_recover_error recovered_state after_kept_entry may_drop pruned_entries standing has_valid_parent_span
    ancestry_payload_for_child first_unnullified_view explicit_ancestry_payload in_issuance_window is_admitted
    verification_matches parent_payload_for may_notarize may_nullify may_finalize has_conflicting_nullify
    required_certification_parent
forgetting_fits = (rises entry_view 0 with_none refl, tt)

leading_ran : IsExecution nat_eq in_turn 1 0 leading
unfolding first_recover_error
leading_ran = ran_as_replied 1 0 leading (begins 1 0 (omega arith)) (begins 1 0 (omega arith), tt) refl leading_fits
    leading_replied

following_ran : IsExecution nat_eq in_turn 1 1 following
unfolding first_recover_error
following_ran = ran_as_replied 1 1 following (begins 1 1 (omega arith))
    (begins 1 1 (omega arith), tt) refl following_fits
    following_replied

forgetting_ran : IsExecution nat_eq in_turn 1 2 forgetting
unfolding first_recover_error
forgetting_ran = ran_as_replied 1 2 forgetting (begins 1 2 (omega arith)) (begins 1 2 (omega arith), tt) refl
    forgetting_fits forgetting_replied

few : FewFaulty divided
few = inl (omega arith, omega arith)

later_few : FewFaulty united
later_few = inl (omega arith, omega arith)

goes : ReplicasContinue divided united
goes = (
  (leads_past_conflict 0 2000 CertificationTimeout, refl),
  (
    (follows_past_conflict 1 2000 CertificationTimeout, refl),
    ((follows_past_conflict 2 1000 LeaderTimeout, refl), tt),
  ),
)

all_ran : AreExecutions in_turn 1 0 united
all_ran = (leading_ran, (following_ran, (forgetting_ran, tt)))

pub divided_network : IsNetworkOf nat_eq in_turn 1 divided
divided_network = network_of in_turn 1 divided few (all_ran_before in_turn 1 0 divided united refl goes all_ran) refl

pub divided_goes_on : ContinuesToFinalize nat_eq in_turn 1 divided united after_conflict
divided_goes_on = goes_on_so in_turn 1 divided united after_conflict few later_few goes all_ran
    (record { backed = refl; certificates = refl; proposals = refl; finalized = refl; new = refl })

-- no proposal has votes enough: each of the two has that of one honest member

only_trace_event : (d e : TraceEvent ℕ) → Contains (d ∷ []) e → d ≡ e
only_trace_event d e h = only_one d e h

no_trace_event : (e : TraceEvent ℕ) → Contains [] e → ⊥
no_trace_event e h = omega (arith, h.1)

apart : (p : Proposal ℕ) → Contains (trace_of (deceived 0 one rival)) (Signs 0 (Notarize p))
    → Contains (trace_of (deceived 1 rival one)) (Signs 1 (Notarize p)) → ⊥
apart p first second =
    let a = only_trace_event (Signs 0 (Notarize one)) (Signs 0 (Notarize p)) first in
    let b = only_trace_event (Signs 1 (Notarize rival)) (Signs 1 (Notarize p)) second in
    let payloads : one.payload ≡ rival.payload = cc in
    omega (arith, payloads)

pub none_notarized : (p : Proposal ℕ) → Backed divided (Notarize p) → ⊥
none_notarized p (inl (first, inl (second, rest))) = apart p first second
none_notarized p (inl (first, inr (inl (third, rest)))) = no_trace_event (Signs 2 (Notarize p)) third
none_notarized p (inl (first, inr (inr (inl (any, rest))))) = rest
none_notarized p (inl (first, inr (inr (inr rest)))) = rest
none_notarized p (inr (inl (second, inl (third, rest)))) = no_trace_event (Signs 2 (Notarize p)) third
none_notarized p (inr (inl (second, inr (inl (any, rest))))) = rest
none_notarized p (inr (inl (second, inr (inr rest)))) = rest
none_notarized p (inr (inr (inl (third, rest)))) = no_trace_event (Signs 2 (Notarize p)) third
none_notarized p (inr (inr (inr (inl (any, rest))))) = rest
none_notarized p (inr (inr (inr (inr rest)))) = rest
