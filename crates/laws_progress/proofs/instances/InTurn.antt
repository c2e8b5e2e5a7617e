-- The divided network finalizes a start soon: its members know the next one, but none of the two after that.
use Rattle.std.proofs.Common.{◌≡◌, refl, ℕ, zero, suc, ◌+◌, ◌≤◌, false, [], ◌∷◌, nat_eq, nat_lt, ltb-true, true, eq-eqb, arith}
use Rattle.std.proofs.lemmas.Bool.{eqb-true}
use Rattle.simplex_types.specs.Certificates.{NotarizeVote}
use Rattle.simplex_voter.specs.Facts.{StateFacts, is_tracked}
use Rattle.simplex_voter.specs.Gaps.{first_unnullified_view}
use Rattle.simplex_voter.specs.Parents.{has_valid_parent_span, ancestry_payload_for_child, parent_payload_for, verification_matches}
use Rattle.simplex_voter.specs.Payloads.{explicit_ancestry_payload}
use Rattle.simplex_voter.specs.Rules.{may_notarize}
use Rattle.simplex_voter.specs.Verification.{standing}
use Rattle.simplex_voter.specs.Windows.{is_admitted, in_issuance_window}
use Rattle.simplex_record.specs.Check.{first_recover_error}
use Rattle.simplex_record.specs.Cuts.{may_drop, pruned_entries}
use Rattle.simplex_record.specs.Entries.{entry_view}
use Rattle.simplex_record.specs.Recovery.{recovered_state, after_kept_entry}
use Rattle.laws_safety.specs.DividedNetwork.{rival, divided}
use Rattle.laws_safety.specs.ScenarioSteps.{one, in_turn}
use Rattle.laws_safety.proofs.networks.ComputedRuns.{rises}
use Rattle.laws_safety.proofs.networks.DividedNetwork.{divided_network}
use Rattle.laws_progress.specs.NetworkStates.{IsSetUpAs, RunsWith}
use Rattle.laws_progress.specs.SharedView.{terms_on}
use Rattle.laws_progress.specs.WorkedNetworks.{ReachesWithin}
use Rattle.laws_progress.proofs.instances.DividedNetwork.{first, first_worked, second, second_worked, third, third_worked}
use Rattle.laws_progress.proofs.instances.Worked.{state_at_end, lives_there, each_lives_so, agree}
use Rattle.laws_progress.proofs.networks.InTurn.{finalized_in_turn}
use Rattle.laws_progress.proofs.runs.Ends.{end_shown}

-- views 3 and 4 are not known
abbrev Ahead : ℕ → StateFacts ℕ ℕ ℕ → Type 0
Ahead i x = IsSetUpAs 1 4 1 i x × (x.current ≤ 1)
    × ((count : ℕ) → count ≤ 1 → is_tracked x (terms_on 1 (suc (1 + count)) 1) ≡ false)

two_unknown : (x : StateFacts ℕ ℕ ℕ) → is_tracked x 3 ≡ false → is_tracked x 4 ≡ false → (count : ℕ) → count ≤ 1
    → is_tracked x (terms_on 1 (suc (1 + count)) 1) ≡ false
two_unknown x third fourth zero up = third
two_unknown x third fourth (suc zero) up = fourth
two_unknown x third fourth (suc (suc count)) up = absurd (omega (arith, up))

first_low : nat_lt (state_at_end first).current 2 ≡ true
unfolding first_recover_error recovered_state after_kept_entry may_drop pruned_entries standing has_valid_parent_span
    ancestry_payload_for_child first_unnullified_view explicit_ancestry_payload in_issuance_window is_admitted
    verification_matches parent_payload_for may_notarize
first_low = refl

first_not_three : is_tracked (state_at_end first) 3 ≡ false
unfolding first_recover_error recovered_state after_kept_entry may_drop pruned_entries standing has_valid_parent_span
    ancestry_payload_for_child first_unnullified_view explicit_ancestry_payload in_issuance_window is_admitted
    verification_matches parent_payload_for may_notarize
first_not_three = refl

first_not_four : is_tracked (state_at_end first) 4 ≡ false
unfolding first_recover_error recovered_state after_kept_entry may_drop pruned_entries standing has_valid_parent_span
    ancestry_payload_for_child first_unnullified_view explicit_ancestry_payload in_issuance_window is_admitted
    verification_matches parent_payload_for may_notarize
first_not_four = refl

first_there : RunsWith nat_eq in_turn first (state_at_end first)
unfolding first_recover_error recovered_state after_kept_entry may_drop pruned_entries standing has_valid_parent_span
    ancestry_payload_for_child first_unnullified_view explicit_ancestry_payload in_issuance_window is_admitted
    verification_matches parent_payload_for may_notarize
first_there = lives_there first (rises entry_view 0 (NotarizeVote one 0 ∷ []) refl, tt) first_worked.replied
    first_worked.alive

first_ahead : (x : StateFacts ℕ ℕ ℕ) × RunsWith nat_eq in_turn first x × Ahead 0 x
first_ahead = (
  state_at_end first,
  first_there,
  (
    first_worked.set_up,
    (let low = ltb-true (state_at_end first).current 2 first_low in omega (arith, low)),
    two_unknown (state_at_end first) first_not_three first_not_four,
  ),
)

second_low : nat_lt (state_at_end second).current 2 ≡ true
unfolding first_recover_error recovered_state after_kept_entry may_drop pruned_entries standing has_valid_parent_span
    ancestry_payload_for_child first_unnullified_view explicit_ancestry_payload in_issuance_window is_admitted
    verification_matches parent_payload_for may_notarize
second_low = refl

second_not_three : is_tracked (state_at_end second) 3 ≡ false
unfolding first_recover_error recovered_state after_kept_entry may_drop pruned_entries standing has_valid_parent_span
    ancestry_payload_for_child first_unnullified_view explicit_ancestry_payload in_issuance_window is_admitted
    verification_matches parent_payload_for may_notarize
second_not_three = refl

second_not_four : is_tracked (state_at_end second) 4 ≡ false
unfolding first_recover_error recovered_state after_kept_entry may_drop pruned_entries standing has_valid_parent_span
    ancestry_payload_for_child first_unnullified_view explicit_ancestry_payload in_issuance_window is_admitted
    verification_matches parent_payload_for may_notarize
second_not_four = refl

second_there : RunsWith nat_eq in_turn second (state_at_end second)
unfolding first_recover_error recovered_state after_kept_entry may_drop pruned_entries standing has_valid_parent_span
    ancestry_payload_for_child first_unnullified_view explicit_ancestry_payload in_issuance_window is_admitted
    verification_matches parent_payload_for may_notarize
second_there = lives_there second (rises entry_view 0 (NotarizeVote rival 1 ∷ []) refl, tt) second_worked.replied
    second_worked.alive

second_ahead : (x : StateFacts ℕ ℕ ℕ) × RunsWith nat_eq in_turn second x × Ahead 1 x
second_ahead = (
  state_at_end second,
  second_there,
  (
    second_worked.set_up,
    (let low = ltb-true (state_at_end second).current 2 second_low in omega (arith, low)),
    two_unknown (state_at_end second) second_not_three second_not_four,
  ),
)

third_low : nat_lt (state_at_end third).current 2 ≡ true
unfolding first_recover_error recovered_state after_kept_entry may_drop pruned_entries standing has_valid_parent_span
    ancestry_payload_for_child first_unnullified_view explicit_ancestry_payload in_issuance_window is_admitted
    verification_matches parent_payload_for may_notarize
third_low = refl

third_not_three : is_tracked (state_at_end third) 3 ≡ false
unfolding first_recover_error recovered_state after_kept_entry may_drop pruned_entries standing has_valid_parent_span
    ancestry_payload_for_child first_unnullified_view explicit_ancestry_payload in_issuance_window is_admitted
    verification_matches parent_payload_for may_notarize
third_not_three = refl

third_not_four : is_tracked (state_at_end third) 4 ≡ false
unfolding first_recover_error recovered_state after_kept_entry may_drop pruned_entries standing has_valid_parent_span
    ancestry_payload_for_child first_unnullified_view explicit_ancestry_payload in_issuance_window is_admitted
    verification_matches parent_payload_for may_notarize
third_not_four = refl

third_there : RunsWith nat_eq in_turn third (state_at_end third)
unfolding first_recover_error recovered_state after_kept_entry may_drop pruned_entries standing has_valid_parent_span
    ancestry_payload_for_child first_unnullified_view explicit_ancestry_payload in_issuance_window is_admitted
    verification_matches parent_payload_for may_notarize
third_there = lives_there third (rises entry_view 0 ([]) refl, tt) third_worked.replied third_worked.alive

third_ahead : (x : StateFacts ℕ ℕ ℕ) × RunsWith nat_eq in_turn third x × Ahead 2 x
third_ahead = (
  state_at_end third,
  third_there,
  (
    third_worked.set_up,
    (let low = ltb-true (state_at_end third).current 2 third_low in omega (arith, low)),
    two_unknown (state_at_end third) third_not_three third_not_four,
  ),
)

pub divided_in_turn : ReachesWithin 7 1 divided
divided_in_turn = finalized_in_turn ℕ nat_eq eqb-true (λ d. eq-eqb d d refl) in_turn 1 1 1 3 1 1 divided 7
    divided_network (omega arith) (omega arith) (
      0,
      first,
      refl,
      λ x lives. (let shown =
          end_shown nat_eq eqb-true in_turn 1 0 first (divided_network.honest 0 first refl) x lives in
          omega (arith, shown.living.keeps.stays.ahead)),
    )
    (each_lives_so Ahead divided (first_ahead, (second_ahead, (third_ahead, tt))))
    (agree 1 divided divided_network (refl, (refl, (refl, tt))))
    (λ v bytes. refl)
    refl
