-- The network whose members lack a nullification and a notarization.
use Rattle.std.proofs.Common.{◌≡◌, refl, ℕ, ◌<◌, false, nat_eq, eq-eqb, arith}
use Rattle.std.proofs.lemmas.Bool.{eqb-true}
use Rattle.simplex_voter.specs.Facts.{StateFacts, is_tracked}
use Rattle.simplex_voter.specs.Gaps.{first_unnullified_view}
use Rattle.simplex_voter.specs.Parents.{has_valid_parent_span, ancestry_payload_for_child, parent_payload_for, find_parent, captured_parent_valid, verification_matches}
use Rattle.simplex_voter.specs.Payloads.{explicit_ancestry_payload, optimistic_ancestry_payload, is_handoff_parent, is_voted_ancestor, can_chain_on}
use Rattle.simplex_voter.specs.ProposalRequests.{propose_answer, proposed_answer}
use Rattle.simplex_voter.specs.Rules.{may_notarize, may_nullify, may_finalize, has_conflicting_nullify, required_certification_parent}
use Rattle.simplex_voter.specs.Verification.{standing}
use Rattle.simplex_voter.specs.Windows.{is_admitted, in_issuance_window}
use Rattle.laws_safety.specs.MissingCertificatesNetwork.{lacks_nullification, skips_two, member_without_notarization, missing_certificates}
use Rattle.laws_safety.specs.Executions.{Execution}
use Rattle.laws_safety.specs.ScenarioSteps.{in_turn}
use Rattle.laws_safety.proofs.networks.MissingNetwork.{lacking_network}
use Rattle.laws_progress.specs.NetworkStates.{IsSetUpAs, RunsWith}
use Rattle.laws_progress.specs.WorkedNetworks.{MayReach, Reaches}
use Rattle.laws_progress.proofs.instances.Worked.{IsWorked, lives_by, each_lives_so, agree}
use Rattle.laws_progress.proofs.networks.Continuations.{no_network_is_stuck}

abbrev Alive : ℕ → StateFacts ℕ ℕ ℕ → Type 0
Alive i x = IsSetUpAs 1 4 1 i x × (is_tracked x 6 ≡ false) × (x.current < 6)

abbrev first : Execution ℕ ℕ ℕ
first = lacks_nullification

first_worked : IsWorked 1 6 0 first
unfolding standing propose_answer proposed_answer find_parent captured_parent_valid has_valid_parent_span
    ancestry_payload_for_child first_unnullified_view explicit_ancestry_payload optimistic_ancestry_payload
    is_handoff_parent is_voted_ancestor can_chain_on in_issuance_window is_admitted verification_matches
    parent_payload_for may_notarize may_nullify may_finalize has_conflicting_nullify required_certification_parent
first_worked = record {
  replied = refl;
  alive = refl;
  set_up = record { signs = refl; of_epoch = refl; elects_by = refl; members = refl; on_time = refl };
  unknown = refl;
  below = refl;
}

first_lives : (x : StateFacts ℕ ℕ ℕ) × RunsWith nat_eq in_turn first x × Alive 0 x
first_lives = lives_by 1 6 0 first tt first_worked

abbrev second : Execution ℕ ℕ ℕ
second = skips_two

second_worked : IsWorked 1 6 1 second
unfolding standing propose_answer proposed_answer find_parent captured_parent_valid has_valid_parent_span
    ancestry_payload_for_child first_unnullified_view explicit_ancestry_payload optimistic_ancestry_payload
    is_handoff_parent is_voted_ancestor can_chain_on in_issuance_window is_admitted verification_matches
    parent_payload_for may_notarize may_nullify may_finalize has_conflicting_nullify required_certification_parent
second_worked = record {
  replied = refl;
  alive = refl;
  set_up = record { signs = refl; of_epoch = refl; elects_by = refl; members = refl; on_time = refl };
  unknown = refl;
  below = refl;
}

second_lives : (x : StateFacts ℕ ℕ ℕ) × RunsWith nat_eq in_turn second x × Alive 1 x
second_lives = lives_by 1 6 1 second tt second_worked

abbrev third : Execution ℕ ℕ ℕ
third = member_without_notarization

third_worked : IsWorked 1 6 2 third
unfolding standing propose_answer proposed_answer find_parent captured_parent_valid has_valid_parent_span
    ancestry_payload_for_child first_unnullified_view explicit_ancestry_payload optimistic_ancestry_payload
    is_handoff_parent is_voted_ancestor can_chain_on in_issuance_window is_admitted verification_matches
    parent_payload_for may_notarize may_nullify may_finalize has_conflicting_nullify required_certification_parent
third_worked = record {
  replied = refl;
  alive = refl;
  set_up = record { signs = refl; of_epoch = refl; elects_by = refl; members = refl; on_time = refl };
  unknown = refl;
  below = refl;
}

third_lives : (x : StateFacts ℕ ℕ ℕ) × RunsWith nat_eq in_turn third x × Alive 2 x
third_lives = lives_by 1 6 2 third tt third_worked

pub lacking_may_go_on : MayReach 1 missing_certificates 6
lacking_may_go_on = record {
  few_faulty = omega arith;
  alive = each_lives_so Alive missing_certificates (first_lives, (second_lives, (third_lives, tt)));
  consistent = agree 1 missing_certificates lacking_network (refl, (refl, (refl, tt)));
  is_term_start = refl;
  small = refl;
  elected = λ bytes. refl;
  honest_leader = (first, refl);
}

pub lacking_reaches : Reaches 1 missing_certificates 6
lacking_reaches = no_network_is_stuck ℕ nat_eq eqb-true (λ d. eq-eqb d d refl) in_turn 1 1 0 6 1 missing_certificates 7
    lacking_network lacking_may_go_on
