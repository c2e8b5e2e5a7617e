-- What a recovery refuses, and what it passes to its entries.
use Rattle.std.proofs.Common.{◌≡◌, refl, ap, ◌∙◌, ℕ, Bool, true, false, if◌then◌else◌, List, [], Option, Some, None, MatchOption, Result, Ok, Err}
use Rattle.std.specs.Option.{option_or}
use Rattle.simplex_types.specs.Certificates.{ArtifactFacts}
use Rattle.simplex_types.specs.Config.{FloorFacts}
use Rattle.simplex_types.specs.declared.types.messages.Artifact.{Artifact}
use Rattle.simplex_voter.specs.Facts.{StateFacts, Elect}
use Rattle.simplex_voter.specs.Refusals.{is_started, has_late_deadline}
use Rattle.simplex_voter.specs.Acceptance.{after_set_floor}
use Rattle.simplex_record.specs.declared.record.error.RecoverError.{RecoverError}
use Rattle.simplex_record.specs.declared.record.error.RecoverError.TheVariants as error
use Rattle.simplex_record.specs.Entries.{entries_of}
use Rattle.simplex_record.specs.Check.{first_error, recovery_floor_rules, first_broken_after, first_recover_error}
use Rattle.simplex_record.specs.Recovery.{after_entries, recovered_state, recover_error, TakesEntries}
use Rattle.simplex_record.specs.Start.{IsErrorDue}
use Rattle.simplex_record.proofs.UnchangedSettings.{event_goes, floor_goes, still_in_time}
use Rattle.simplex_record.specs.Events.{SetFloor}
use Rattle.simplex_record.proofs.CheckState.{none_left}
use Rattle.simplex_record.proofs.EntrySuffixes.{all_taken_goes}
use Rattle.simplex_record.proofs.StateChanges.{floor_view, floor_kept}
use Rattle.simplex_record.proofs.EntryRules.{none_first}
use Rattle.simplex_record.proofs.HeldEntries.{BearsAll, bears_kept}
use Rattle.simplex_record.proofs.AllowedRecords.{takes_entries}

-- the first broken rule is the error that is due
pub broken_due : {T : Type 0} (ok : T) (broken late : Option RecoverError) (found : RecoverError)
    → MatchOption broken (◌≡◌ {A = Result T RecoverError} (Err found) (Ok ok))
    (λ b. ◌≡◌ {A = Result T RecoverError} (Err found) (Err b)) → IsErrorDue (option_or broken late) found
broken_due ok None late found is = absurd cc
broken_due ok (Some b) late found is = ap (λ e. result_or e found) is
  where
    result_or : {T : Type 0} → Result T RecoverError → RecoverError → RecoverError
    result_or (Ok _) other = other
    result_or (Err e) other = e

pub none_broken : {T : Type 0} (a ok : T) (broken : Option RecoverError)
    → MatchOption broken (◌≡◌ {A = Result T RecoverError} (Ok a) (Ok ok))
    (λ b. ◌≡◌ {A = Result T RecoverError} (Ok a) (Err b)) → broken ≡ None
none_broken a ok None is = refl
none_broken a ok (Some b) is = absurd cc

module _ {K L D : Type 0} (same : D → D → Bool) (x : StateFacts K L D) (floor : FloorFacts D) (now : ℕ) where
  floor_unbroken : (entries : List (ArtifactFacts D))
      → first_recover_error same x.settings.epoch x.me floor entries ≡ None
      → first_error (recovery_floor_rules x.settings.epoch floor) ≡ None
  unfolding first_recover_error
  floor_unbroken entries kept = none_first (first_error (recovery_floor_rules x.settings.epoch floor))
      (first_broken_after same x.settings.epoch x.me [] entries) kept

  entries_unbroken : (entries : List (ArtifactFacts D))
      → first_recover_error same x.settings.epoch x.me floor entries ≡ None
      → first_broken_after same x.settings.epoch x.me [] entries ≡ None
  unfolding first_recover_error
  entries_unbroken entries kept = none_left (first_error (recovery_floor_rules x.settings.epoch floor))
      (first_broken_after same x.settings.epoch x.me [] entries) kept

  floor_alone : first_error (recovery_floor_rules x.settings.epoch floor) ≡ None
      → first_recover_error same x.settings.epoch x.me floor [] ≡ None
  unfolding first_recover_error
  floor_alone kept = rw kept refl

  -- where no rule is broken, the record is refused as the floor alone is
  pub refused_alike : (entries : List (ArtifactFacts D))
      → first_recover_error same x.settings.epoch x.me floor entries ≡ None
      → recover_error same x floor now entries ≡ recover_error same x floor now []
  refused_alike entries kept = rw (kept, floor_alone (floor_unbroken entries kept)) refl

  -- a floor that is accepted is in time
  pub accepted_in_time : recover_error same x floor now [] ≡ None → has_late_deadline x now ≡ false
  accepted_in_time none = lates (has_late_deadline x now)
      (none_left (first_recover_error same x.settings.epoch x.me floor []) _ none)
    where
      lates : (late : Bool) → (if late then Some error.TimeOverflow else None) ≡ None → late ≡ false
      lates true is = absurd cc
      lates false is = refl

module _ {K L D : Type 0} (same : D → D → Bool) (elect : Elect L) (x : StateFacts K L D) (floor : FloorFacts D)
    (now : ℕ) where
  pub set_in_time : has_late_deadline x now ≡ false
      → has_late_deadline (after_set_floor same elect x floor now) now ≡ false
  set_in_time in_time = still_in_time x (after_set_floor same elect x floor now) now
      (event_goes same elect x (SetFloor floor now)) in_time

  -- the state of a recovery has not failed
  pub recovered_goes_on : (entries : List (ArtifactFacts D)) → x.failed ≡ false
      → ((after_entries same elect (after_set_floor same elect x floor now) now entries).failed ≡ false)
      × (is_started (after_entries same elect (after_set_floor same elect x floor now) now entries) ≡ true)
  recovered_goes_on entries going =
      let set = floor_goes same elect x floor now going in
      let goes = all_taken_goes same elect (after_set_floor same elect x floor now) now entries in
      (goes.failed ∙ set.0, goes.started set.1)

  pub recovered_is : (entries : List (ArtifactFacts D))
      → after_entries same elect (after_set_floor same elect x floor now) now entries ≡ recovered_state same elect x
      floor now entries
  unfolding recovered_state
  recovered_is entries = refl

  -- a state at its floor takes each entry of a record that breaks no rule
  pub set_takes : {S G C : Type 0} (bytes_of : C → List ℕ) (entries : List (Artifact S D K G C)) → x.failed ≡ false
      → BearsAll [] x → first_recover_error same x.settings.epoch x.me floor (entries_of bytes_of entries) ≡ None
      → TakesEntries bytes_of same elect (after_set_floor same elect x floor now) now entries
  set_takes bytes_of entries going bears kept =
      let y = after_set_floor same elect x floor now in
      let keeps = floor_kept same elect x floor now in
      let rest : first_broken_after same y.settings.epoch y.me [] (entries_of bytes_of entries) ≡ None =
      rw ((event_goes same elect x (SetFloor floor now)).settings, keeps.me)
      (entries_unbroken same x floor now (entries_of bytes_of entries) kept) in
      takes_entries bytes_of same elect now entries [] y (floor_goes same elect x floor now going).1
      (bears_kept (floor_view floor) [] x y keeps bears) rest
