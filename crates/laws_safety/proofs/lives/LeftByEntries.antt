-- For `states_time_out`.
-- A recovery leaves each view whose true verdict is in the record, and so each that it decides to finalize.
use Rattle.std.proofs.Common.{◌≡◌, refl, sym, ◌∙◌, ℕ, ◌<◌, ◌≤◌, ◌⊎◌, inl, inr, Bool, true, false, if◌then◌else◌, ◌&&◌, ◌==◌, nat_lt, List, [], ◌∷◌, ◌++◌, Option, None, arith}
use Rattle.std.proofs.lemmas.Bool.{false≢true, eqb-true, or_cases}
use Rattle.std.proofs.lemmas.Bool.Decides.{nat_tests}
use Rattle.std.specs.Option.{option_or}
use Rattle.simplex_types.specs.Certificates.{ArtifactFacts, NotarizeVote, NullifyVote, FinalizeVote, Verdict, Accepted, Notarized, Nullified, Finalized}
use Rattle.simplex_types.specs.declared.types.numbers.Round.{Round}
use Rattle.simplex_voter.specs.Facts.{StateFacts, Elect}
use Rattle.simplex_voter.specs.Windows.{min_active}
use Rattle.simplex_voter.proofs.Gaps.{and_parts}
use Rattle.simplex_record.specs.Check.{stands, is_verdict, first_error, entry_rules, own_rules, beside_rules, lacks_notarization, contradicts_verdict, meets_opposite, contradicts_vote, lacks_true_verdict, first_broken_after, first_recover_error, recovery_floor_rules}
use Rattle.simplex_record.specs.Entries.{entry_view}
use Rattle.simplex_record.specs.Events as event
use Rattle.simplex_record.specs.Events.{Event, after_event}
use Rattle.simplex_record.specs.Recovery.{after_replaying, after_entry, after_kept_entry, after_entries, recovered_state, recover_error}
use Rattle.simplex_record.specs.Start.{StartFacts, new_state}
use Rattle.simplex_record.specs.declared.record.error.RecoverError.{RecoverError}
use Rattle.simplex_record.specs.declared.record.error.RecoverError.TheVariants as error
use Rattle.simplex_record.proofs.EntryRules.{none_first}
use Rattle.simplex_record.proofs.Rounds.{tracked_put}
use Rattle.simplex_record.proofs.CheckState.{from_not_false, unbroken, rest_unbroken, none_left, first_error-append}
use Rattle.laws_safety.specs.LifetimeLaws.{CurrentTimesOut}
use Rattle.laws_safety.specs.StateLaws.{settles}
use Rattle.laws_safety.proofs.frames.CallsMake.{retaken_keeps}
use Rattle.laws_safety.proofs.frames.NoLowerViews.{event_goes}
use Rattle.laws_safety.proofs.lives.ViewTimeouts.{TimesOut, new_times_out, event_times_out}
use Rattle.laws_safety.proofs.lives.LeftViews.{LeftUnless, None_settled, left_but, event_left, floor_left, unsettled_timeout}
use Rattle.laws_safety.proofs.votes.ShownVotesByCalls.{certified_passes}

-- the state after the entries that were taken
pub record EntriesLeft {K L D : Type 0} (before : List (ArtifactFacts D)) (x : StateFacts K L D) : Type 0 where
  pub times_out : TimesOut x
  pub left : LeftUnless None_settled x
  -- a true verdict enters a later view, or lies below the retained ones
  pub verdicts : (v : ℕ) → stands v (is_verdict true) before ≡ true → v < x.current

module _ {K L D : Type 0} (same : D → D → Bool) (elect : Elect L) where
  abbrev replay_of : ArtifactFacts D → Event K D
  replay_of a = event.Replay a

  -- an event that settles only views that it leaves
  settled_left : (x : StateFacts K L D) (e : Event K D)
      → ((v : ℕ) → settles v e ≡ true → v < (after_event same elect x e).current) → LeftUnless None_settled x
      → LeftUnless None_settled (after_event same elect x e)
  settled_left x e leaves left = left_but (after_event same elect x e) _ None_settled by_event
      (event_left same elect None_settled x e left)
    where
      by_event : (v : ℕ) → None_settled v ⊎ (settles v e ≡ true)
          → (v < (after_event same elect x e).current) ⊎ None_settled v
      by_event v (inl never) = absurd never
      by_event v (inr here) = inl (leaves v here)

  module _ (now : ℕ) (x : StateFacts K L D) where
    -- a verdict that is replayed and given
    module _ (round : Round) where
      abbrev replayed : Bool → StateFacts K L D
      replayed success = after_replaying same elect x (Verdict round success)

      pub verdict_left : (success : Bool) → success ≡ true
          → round.view < (after_entry same elect x now (Verdict round success)).current
      verdict_left success so = certified_passes same elect (replayed success) round.view now success
          (tracked_put x round.view _) so

      given_left : (success : Bool) → LeftUnless None_settled x
          → LeftUnless None_settled (after_entry same elect x now (Verdict round success))
      given_left success left =
          left_but (after_entry same elect x now (Verdict round success)) _ None_settled by_events
          (event_left same elect (λ v. None_settled v ⊎ (settles v (replay_of (Verdict round success)) ≡ true))
          (replayed success) (event.Certified round.view success now)
          (event_left same elect None_settled x (event.Replay (Verdict round success)) left))
        where
          entered : (success : Bool) (v : ℕ) → settles v (replay_of (Verdict round success)) ≡ true
              → v < (after_entry same elect x now (Verdict round success)).current
          entered true v here = let at = eqb-true round.view v here in let passes = verdict_left true refl in
              omega (arith, at, passes)
          entered false v here = absurd (false≢true here)

          by_events : (v : ℕ) → (None_settled v ⊎ (settles v (replay_of (Verdict round success)) ≡ true))
              ⊎ (false ≡ true) → (v < (after_entry same elect x now (Verdict round success)).current) ⊎ None_settled v
          by_events v (inl (inl never)) = absurd never
          by_events v (inl (inr here)) = inl (entered success v here)
          by_events v (inr never) = absurd (false≢true never)

    never_settles : (v : ℕ) → false ≡ true → ⊥
    never_settles v is = false≢true is

    -- an entry of a retained view
    entry_left : (before : List (ArtifactFacts D)) (e : ArtifactFacts D) → lacks_true_verdict before e ≡ false
        → EntriesLeft before x → LeftUnless None_settled (after_entry same elect x now e)
    entry_left before (NotarizeVote p m) judged kept =
        settled_left x (event.Replay (NotarizeVote p m)) (λ v is. absurd (never_settles v is)) kept.left
    entry_left before (NullifyVote round m) judged kept =
        settled_left x (event.Replay (NullifyVote round m)) (λ v is. absurd (never_settles v is)) kept.left
    entry_left before (FinalizeVote p m) judged kept =
        let e : Event K D = event.Replay (FinalizeVote p m) in
        let below = kept.verdicts p.round.view (from_not_false (stands p.round.view (is_verdict true) before) judged) in
        settled_left x e (λ v here. let at = eqb-true p.round.view v here in
        let goes = (event_goes same elect x e).current in omega (arith, at, below, goes)) kept.left
    entry_left before (Verdict round success) judged kept = given_left round success kept.left
    entry_left before (Accepted (Notarized c)) judged kept =
        settled_left _ (event.Replay (Accepted (Notarized c))) (λ v is. absurd (never_settles v is))
        (settled_left x (event.AddNotarization c) (λ v is. absurd (never_settles v is)) kept.left)
    entry_left before (Accepted (Nullified c)) judged kept =
        settled_left _ (event.Replay (Accepted (Nullified c))) (λ v is. absurd (never_settles v is))
        (settled_left x (event.AddNullification c now) (λ v is. absurd (never_settles v is)) kept.left)
    entry_left before (Accepted (Finalized c)) judged kept =
        settled_left _ (event.Replay (Accepted (Finalized c))) (λ v is. absurd (never_settles v is))
        (settled_left x (event.AddFinalization c now) (λ v is. absurd (never_settles v is)) kept.left)

    -- the current view is no lower then
    entry_rises : (e : ArtifactFacts D) → x.current ≤ (after_entry same elect x now e).current
    entry_rises e = retaken_keeps same elect (λ y. x.current ≤ y.current)
        (λ y f above. let goes = (event_goes same elect y f).current in omega (arith, above, goes)) now x e
        (omega arith)

    newest_left : (e : ArtifactFacts D) → is_verdict true e ≡ true
        → entry_view e < (after_entry same elect x now e).current
    newest_left (Verdict round success) is = verdict_left round success is
    newest_left _ is = absurd (false≢true is)

    -- the newest entry, or one before
    stood : (v : ℕ) (e : ArtifactFacts D) (before : List (ArtifactFacts D))
        → stands v (is_verdict true) (e ∷ before) ≡ true
        → ((v ≡ entry_view e) × (is_verdict true e ≡ true)) ⊎ (stands v (is_verdict true) before ≡ true)
    stood v e before there =
        elim (or_cases (entry_view e == v && is_verdict true e) (stands v (is_verdict true) before) there) [
          | inl here ↦ (let both = and_parts (entry_view e == v) (is_verdict true e) here in
              inl (sym (eqb-true (entry_view e) v both.0), both.1))
          | inr before ↦ inr before
        ]

    taken_left : (before : List (ArtifactFacts D)) (e : ArtifactFacts D) → lacks_true_verdict before e ≡ false
        → EntriesLeft before x → EntriesLeft (e ∷ before) (after_entry same elect x now e)
    taken_left before e judged kept = record {
      times_out = retaken_keeps same elect TimesOut (event_times_out same elect) now x e kept.times_out;
      left = entry_left before e judged kept;
      verdicts = λ v there. elim (stood v e before there) [
        | inl here ↦ (let passes = newest_left e here.1 in omega (arith, here.0, passes))
        | inr old ↦ (let below = kept.verdicts v old in let rises = entry_rises e in omega (arith, below, rises))
      ];
    }

    -- one of a lower view is skipped
    passed_left : (before : List (ArtifactFacts D)) (e : ArtifactFacts D) → nat_lt (entry_view e) (min_active x) ≡ true
        → EntriesLeft before x → EntriesLeft (e ∷ before) x
    passed_left before e low kept = record {
      times_out = kept.times_out;
      left = kept.left;
      verdicts = λ v there. elim (stood v e before there) [
        | inl here ↦ (let ahead = kept.times_out.ahead in
            let below : entry_view e < min_active x = grind (arith, nat_tests) in omega (arith, here.0, below, ahead))
        | inr old ↦ kept.verdicts v old
      ];
    }

    pub next_left : (before : List (ArtifactFacts D)) (e : ArtifactFacts D) → lacks_true_verdict before e ≡ false
        → EntriesLeft before x → EntriesLeft (e ∷ before) (after_kept_entry same elect x now e)
    unfolding after_kept_entry
    next_left before e judged kept = by_view (nat_lt (entry_view e) (min_active x)) refl
      where
        by_view : (b : Bool) → nat_lt (entry_view e) (min_active x) ≡ b
            → EntriesLeft (e ∷ before) (if b then x else after_entry same elect x now e)
        by_view true low = passed_left before e low kept
        by_view false kept_view = taken_left before e judged kept

abbrev Rules : Type 0
Rules = List (Bool × RecoverError)

-- an entry that breaks no rule has what a vote to finalize requires
module _ {D : Type 0} (same : D → D → Bool) (epoch : ℕ) (me : Option ℕ) where
  judged_before : (before : List (ArtifactFacts D)) (e : ArtifactFacts D)
      → first_error (entry_rules same epoch me before e) ≡ None → lacks_true_verdict before e ≡ false
  judged_before before e kept =
      let mine = rest_unbroken _ error.OutOfOrder (own_rules epoch me e ++ beside_rules same before e) kept in
      let beside = none_left (first_error (own_rules epoch me e)) (first_error (beside_rules same before e))
      (sym (first_error-append (own_rules epoch me e) (beside_rules same before e)) ∙ mine) in
      let fourth : Rules = (contradicts_vote same before e, error.ContradictingVotes)
      ∷ (lacks_true_verdict before e, error.FinalizeWithoutVerdict) ∷ [] in
      let third : Rules = (meets_opposite before e, error.NullifyBesideFinalize) ∷ fourth in
      let second : Rules = (contradicts_verdict before e, error.ContradictingVerdicts) ∷ third in
      let after_one = rest_unbroken (lacks_notarization before e) error.VerdictWithoutNotarization second beside in
      let after_two = rest_unbroken (contradicts_verdict before e) error.ContradictingVerdicts third after_one in
      let after_three = rest_unbroken (meets_opposite before e) error.NullifyBesideFinalize fourth after_two in
      let after_four = rest_unbroken (contradicts_vote same before e) error.ContradictingVotes
      ((lacks_true_verdict before e, error.FinalizeWithoutVerdict) ∷ []) after_three in
      unbroken (lacks_true_verdict before e) error.FinalizeWithoutVerdict [] after_four

module _ {K L D : Type 0} (same : D → D → Bool) (elect : Elect L) (epoch : ℕ) (me : Option ℕ) (now : ℕ) where
  all_left : (entries before : List (ArtifactFacts D)) (x : StateFacts K L D)
      → first_broken_after same epoch me before entries ≡ None → EntriesLeft before x
      → CurrentTimesOut (after_entries same elect x now entries)
  all_left [] before x unbroken_rules kept = record {
    ahead = kept.times_out.ahead;
    timeout = unsettled_timeout None_settled x kept.times_out kept.left (λ never. never);
  }
  all_left (e ∷ rest) before x unbroken_rules kept =
      let first = first_error (entry_rules same epoch me before e) in
      let others = first_broken_after same epoch me (e ∷ before) rest in
      all_left rest (e ∷ before) (after_kept_entry same elect x now e) (none_left first others unbroken_rules)
      (next_left same elect now x before e
      (judged_before same epoch me before e (none_first first others unbroken_rules)) kept)

module _ {K L D : Type 0} (same : D → D → Bool) (elect : Elect L) where
  pub recovered_states_time_out : (start : StartFacts K L D) (entries : List (ArtifactFacts D))
      → recover_error same (new_state start.setup) start.floor start.now entries ≡ None
      → CurrentTimesOut (recovered_state same elect (new_state start.setup) start.floor start.now entries)
  unfolding recovered_state first_recover_error
  recovered_states_time_out start entries accepted =
      let setup = start.setup in
      let whole = none_first (option_or (first_error (recovery_floor_rules setup.settings.epoch start.floor))
      (first_broken_after same setup.settings.epoch setup.me [] entries)) _ accepted in
      all_left same elect setup.settings.epoch setup.me start.now entries [] _
      (none_left (first_error (recovery_floor_rules setup.settings.epoch start.floor)) _ whole) (record {
        times_out = new_times_out same elect setup.settings setup.me setup.members setup.elector setup.terms
            setup.elects_early start.floor start.now;
        left = floor_left same elect setup start.floor start.now;
        verdicts = λ v is. absurd (false≢true is);
      })
