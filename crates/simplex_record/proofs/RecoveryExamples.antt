-- Recoveries by the definitions, of four members in terms of one view, of whom this is member 0. Keys, payloads and
-- signatures are numbers; 10 views
-- are retained.
use Rattle.std.proofs.Common.{◌≡◌, refl, ℕ, ◌%◌, true, false, List, [], ◌∷◌, Some, None, nat_eq, is_some}
use Rattle.simplex_types.specs.Terms.{term_index}
use Rattle.simplex_types.specs.Config.{FloorFacts, Genesis}
use Rattle.simplex_voter.specs.Facts.{Settings, StateFacts, Elect, new_facts}
use Rattle.simplex_voter.specs.Windows.{is_admitted}
use Rattle.simplex_voter.specs.Rules.{may_nullify, may_finalize, has_conflicting_nullify, required_certification_parent}
use Rattle.simplex_voter.specs.StateAnswers.{notarization_of, nullification_of}
use Rattle.simplex_voter.specs.Votes.{nullify_answer, finalize_answer}
use Rattle.simplex_record.specs.declared.record.error.RecoverError.TheVariants as error
use Rattle.simplex_record.specs.Check.{first_recover_error}
use Rattle.simplex_record.specs.Recovery.{after_kept_entry, recovered_state, recover_error, with_floor}
use Rattle.simplex_record.proofs.Examples.{Entry, notarization, nullification, finalization, verdict, nullify, finalize, floor_at}

abbrev pub in_turn : Elect ℕ
in_turn length round seed = term_index length round.view % 4

abbrev pub settings : Settings
settings = record {
  epoch = 1;
  view_retention = 10;
  leader_timeout = 1000;
  certification_timeout = 2000;
  timeout_retry = 500;
  skip_budget = 4;
}

abbrev fresh : StateFacts ℕ ℕ ℕ
fresh = new_facts settings (Some 0) (0 ∷ 1 ∷ 2 ∷ 3 ∷ []) 1
    (record { term_length = 1; optimistic_views = 0; stall_timeout = None }) true

abbrev state_of : FloorFacts ℕ → List Entry → StateFacts ℕ ℕ ℕ
state_of floor entries = recovered_state nat_eq in_turn fresh floor 0 entries

-- above a finalized floor, entries below its retention are skipped
floor_far_ahead : (state_of (floor_at 1 20) (nullification 3 ∷ notarization 15 ∷ [])).current ≡ 21
unfolding recovered_state after_kept_entry
floor_far_ahead = refl

kept_above_the_floor : is_some (notarization_of (state_of (floor_at 1 20) (nullification 3 ∷ notarization 15 ∷ [])) 15)
    ≡ true
unfolding recovered_state after_kept_entry
kept_above_the_floor = refl

passed_over : is_some (nullification_of (state_of (floor_at 1 20) (nullification 3 ∷ notarization 15 ∷ [])) 3) ≡ false
unfolding recovered_state after_kept_entry
passed_over = refl

-- a record below the floor's view rolls nothing back, and one above it raises the state
raised_by_the_record : (state_of (floor_at 1 20) (finalization 30 ∷ [])).finalized ≡ 30
unfolding recovered_state after_kept_entry
raised_by_the_record = refl

-- a true verdict enters the next view again
entered_by_a_verdict : (state_of (Genesis 0) (nullify 1 ∷ notarization 1 ∷ verdict 1 true ∷ [])).current ≡ 2
unfolding recovered_state after_kept_entry
entered_by_a_verdict = refl

-- a vote is remembered: a nullify vote is a repeat from then on, and bars the vote to finalize
nullify_again : nullify_answer (state_of (Genesis 0) (nullify 1 ∷ [])) 1 ≡ Some true
unfolding recovered_state after_kept_entry may_nullify
nullify_again = refl

no_finalize : finalize_answer in_turn (state_of (Genesis 0) (nullify 1 ∷ notarization 1 ∷ verdict 1 true ∷ [])) 1 ≡ None
unfolding recovered_state after_kept_entry may_finalize is_admitted has_conflicting_nullify
    required_certification_parent
no_finalize = refl

finalize_once : finalize_answer in_turn (state_of (Genesis 0) (notarization 1 ∷ verdict 1 true ∷ finalize 1 ∷ []))
    1 ≡ None
unfolding recovered_state after_kept_entry may_finalize is_admitted has_conflicting_nullify
    required_certification_parent
finalize_once = refl

-- a deadline that passes 64 bits, after the rules of the record
too_late : recover_error nat_eq fresh (Genesis 0) 18446744073709551615 (nullify 1 ∷ []) ≡ Some error.TimeOverflow
unfolding first_recover_error
too_late = refl

broken_and_late : recover_error nat_eq fresh (Genesis 0) 18446744073709551615 (nullification 0 ∷ []) ≡ Some
    error.ZeroView
unfolding first_recover_error
broken_and_late = refl

-- the floor's finalization is recorded once
floor_recorded : with_floor (nullify 1 ∷ []) (floor_at 1 20) ≡ nullify 1 ∷ finalization 20 ∷ []
floor_recorded = refl

floor_recorded_before : with_floor (finalization 20 ∷ []) (floor_at 1 20) ≡ finalization 20 ∷ []
floor_recorded_before = refl
