-- The network whose first leader proposes twice, and whose members restart.
use Rattle.std.proofs.Common.{◌≡◌, refl, ℕ, ◌<◌, false, [], ◌∷◌, nat_eq, eq-eqb, arith}
use Rattle.std.proofs.lemmas.Bool.{eqb-true}
use Rattle.simplex_types.specs.Certificates.{NotarizeVote}
use Rattle.simplex_voter.specs.Facts.{StateFacts, is_tracked}
use Rattle.simplex_voter.specs.Gaps.{first_unnullified_view}
use Rattle.simplex_voter.specs.Parents.{has_valid_parent_span, ancestry_payload_for_child, parent_payload_for, verification_matches}
use Rattle.simplex_voter.specs.Payloads.{explicit_ancestry_payload}
use Rattle.simplex_voter.specs.Rules.{may_notarize}
use Rattle.simplex_voter.specs.Verification.{standing}
use Rattle.simplex_voter.specs.Windows.{is_admitted, in_issuance_window}
use Rattle.simplex_record.specs.Check.{first_recover_error}
use Rattle.simplex_record.specs.Cuts.{may_drop, pruned_entries}
use Rattle.simplex_record.specs.Entries.{entry_view}
use Rattle.simplex_record.specs.Recovery.{recovered_state, after_kept_entry}
use Rattle.laws_safety.specs.DividedNetwork.{rival, deceived, warned, divided}
use Rattle.laws_safety.specs.Executions.{Execution}
use Rattle.laws_safety.specs.ScenarioSteps.{one, in_turn}
use Rattle.laws_safety.proofs.networks.ComputedRuns.{rises}
use Rattle.laws_safety.proofs.networks.DividedNetwork.{divided_network}
use Rattle.laws_progress.specs.NetworkStates.{IsSetUpAs, RunsWith}
use Rattle.laws_progress.specs.WorkedNetworks.{MayReach, Reaches}
use Rattle.laws_progress.proofs.instances.Worked.{IsWorked, lives_by, each_lives_so, agree}
use Rattle.laws_progress.proofs.networks.Continuations.{no_network_is_stuck}

abbrev Alive : ℕ → StateFacts ℕ ℕ ℕ → Type 0
Alive i x = IsSetUpAs 1 4 1 i x × (is_tracked x 6 ≡ false) × (x.current < 6)

abbrev pub first : Execution ℕ ℕ ℕ
first = deceived 0 one rival

pub first_worked : IsWorked 1 6 0 first
unfolding first_recover_error recovered_state after_kept_entry may_drop pruned_entries standing has_valid_parent_span
    ancestry_payload_for_child first_unnullified_view explicit_ancestry_payload in_issuance_window is_admitted
    verification_matches parent_payload_for may_notarize
first_worked = record {
  replied = refl;
  alive = refl;
  set_up = record { signs = refl; of_epoch = refl; elects_by = refl; members = refl; on_time = refl };
  unknown = refl;
  below = refl;
}

first_lives : (x : StateFacts ℕ ℕ ℕ) × RunsWith nat_eq in_turn first x × Alive 0 x
unfolding first_recover_error recovered_state after_kept_entry may_drop pruned_entries standing has_valid_parent_span
    ancestry_payload_for_child first_unnullified_view explicit_ancestry_payload in_issuance_window is_admitted
    verification_matches parent_payload_for may_notarize
first_lives = lives_by 1 6 0 first (rises entry_view 0 (NotarizeVote one 0 ∷ []) refl, tt) first_worked

abbrev pub second : Execution ℕ ℕ ℕ
second = deceived 1 rival one

pub second_worked : IsWorked 1 6 1 second
unfolding first_recover_error recovered_state after_kept_entry may_drop pruned_entries standing has_valid_parent_span
    ancestry_payload_for_child first_unnullified_view explicit_ancestry_payload in_issuance_window is_admitted
    verification_matches parent_payload_for may_notarize
second_worked = record {
  replied = refl;
  alive = refl;
  set_up = record { signs = refl; of_epoch = refl; elects_by = refl; members = refl; on_time = refl };
  unknown = refl;
  below = refl;
}

second_lives : (x : StateFacts ℕ ℕ ℕ) × RunsWith nat_eq in_turn second x × Alive 1 x
unfolding first_recover_error recovered_state after_kept_entry may_drop pruned_entries standing has_valid_parent_span
    ancestry_payload_for_child first_unnullified_view explicit_ancestry_payload in_issuance_window is_admitted
    verification_matches parent_payload_for may_notarize
second_lives = lives_by 1 6 1 second (rises entry_view 0 (NotarizeVote rival 1 ∷ []) refl, tt) second_worked

abbrev pub third : Execution ℕ ℕ ℕ
third = warned 2

pub third_worked : IsWorked 1 6 2 third
unfolding first_recover_error recovered_state after_kept_entry may_drop pruned_entries standing has_valid_parent_span
    ancestry_payload_for_child first_unnullified_view explicit_ancestry_payload in_issuance_window is_admitted
    verification_matches parent_payload_for may_notarize
third_worked = record {
  replied = refl;
  alive = refl;
  set_up = record { signs = refl; of_epoch = refl; elects_by = refl; members = refl; on_time = refl };
  unknown = refl;
  below = refl;
}

third_lives : (x : StateFacts ℕ ℕ ℕ) × RunsWith nat_eq in_turn third x × Alive 2 x
unfolding first_recover_error recovered_state after_kept_entry may_drop pruned_entries standing has_valid_parent_span
    ancestry_payload_for_child first_unnullified_view explicit_ancestry_payload in_issuance_window is_admitted
    verification_matches parent_payload_for may_notarize
third_lives = lives_by 1 6 2 third (rises entry_view 0 [] refl, tt) third_worked

pub divided_may_go_on : MayReach 1 divided 6
divided_may_go_on = record {
  few_faulty = omega arith;
  alive = each_lives_so Alive divided (first_lives, (second_lives, (third_lives, tt)));
  consistent = agree 1 divided divided_network (refl, (refl, (refl, tt)));
  is_term_start = refl;
  small = refl;
  elected = λ bytes. refl;
  honest_leader = (first, refl);
}

pub divided_reaches : Reaches 1 divided 6
divided_reaches = no_network_is_stuck ℕ nat_eq eqb-true (λ d. eq-eqb d d refl) in_turn 1 1 0 6 1 divided 7
    divided_network divided_may_go_on
