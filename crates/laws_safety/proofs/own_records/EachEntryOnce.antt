-- Over all its lifetimes a member records at most one entry of each kind for each view.
use Rattle.std.proofs.Common.{◌≡◌, refl, ap, sym, ◌∙◌, subst, ℕ, ◌-◌, ◌<◌, ◌⊎◌, inl, inr, Bool, true, false, if◌then◌else◌, ◌&&◌, ◌||◌, nat_le, List, [], ◌∷◌, ◌++◌, Contains, Option, Some, None, Result, Ok, Err, arith}
use Rattle.std.specs.Prelude.{◌==◌, MatchOption}
use Rattle.std.specs.List.{IsDistinct}
use Rattle.std.proofs.lemmas.Bool.{cases_Bool, false≢true}
use Rattle.std.proofs.lemmas.List.Elements.{Contains-push_cases}
use Rattle.simplex_types.specs.Certificates.{ProposalFacts, Finalized, ArtifactFacts, Accepted}
use Rattle.simplex_types.specs.Config.{FloorFacts, Genesis, Finalized as FinalizedFloor}
use Rattle.simplex_types.specs.declared.types.fault.Fault.{Fault}
use Rattle.simplex_voter.specs.Facts.{StateFacts, Elect}
use Rattle.simplex_voter.specs.Acceptance.{floor_answer}
use Rattle.simplex_voter.proofs.Gaps.{and_parts}
use Rattle.simplex_record.specs.declared.record.error.RecoverError.{RecoverError}
use Rattle.simplex_record.specs.Check.{stands}
use Rattle.simplex_record.specs.Cuts.{without_last, pruned_entries, finalized_in}
use Rattle.simplex_record.specs.Entries.{entry_view}
use Rattle.simplex_record.specs.Recovery.{is_finalization_entry, with_floor, recover_error, recovered_state}
use Rattle.simplex_record.specs.Start.{StartFacts, new_state}
use Rattle.simplex_member.specs.CallConditions.{is_allowed, fault_of}
use Rattle.simplex_member.specs.Calls.{CallFacts, ReplyFacts}
use Rattle.simplex_member.specs.CallSemantics.{after_call, recorded_by}
use Rattle.simplex_member.specs.MemberFacts.{MemberFacts, IsCall, AnswersAlive, left_of, without_lifetime}
use Rattle.simplex_member.specs.PrunedRecord.{stays_within, pruned_member}
use Rattle.simplex_member.specs.Restarts.{RestartFacts, IsByView, cut_member, new_lifetime, retention_grows, IsRestart, IsRestartWhere}
use Rattle.simplex_member.specs.Runs.{StepFacts, Calls, Prunes, Restarts, IsStep, IsRun}
use Rattle.laws_safety.specs.Executions.{new_member}
use Rattle.laws_safety.specs.RecordsOnce.{are_of_one_kind, are_alike, RecordsOnce}
use Rattle.laws_safety.specs.TermLengths.{HasTerms, KeepTerms}
use Rattle.laws_safety.specs.Traces.{TraceEvent, of_floor, trace_at}
use Rattle.laws_safety.proofs.frames.Fresh.{fresh_state}
use Rattle.laws_safety.proofs.lists.Filters.{Contains-filtered, same_entries}
use Rattle.laws_safety.proofs.lists.Splits.{Contains-cases}
use Rattle.laws_safety.proofs.records.RunsLawful.{LivesOn, MemberLives, step_lives, start_lives}
use Rattle.laws_safety.proofs.own_records.Distinct.{distinct_left, distinct_filtered, distinct_push}
use Rattle.laws_safety.proofs.own_records.EntriesByCalls.{ShowsEntries, grows_once, call_shows, newly_recorded}
use Rattle.laws_safety.proofs.own_records.RecoveredEntries.{is_shown, floor_stands, entries_recover}
use Rattle.laws_safety.proofs.own_records.Runs.{left_first}

-- while the member has not failed its state shows the record's entries
abbrev pub ShowsOn : {K L D : Type 0} → List (ArtifactFacts D) → Option (StateFacts K L D) → Type 0
ShowsOn entries None = Unit {0}
ShowsOn entries (Some x) = (low : ℕ) × ShowsEntries low entries x

-- no two entries of its record are alike, and it knows of each that it may meet again
pub record KeepsOnce {K L D : Type 0} (m : MemberFacts K L D) : Type 0 where
  pub once : RecordsOnce m.entries
  pub shows : ShowsOn m.entries m.life

module _ {D : Type 0} where
  -- a finalization that is recorded if there is none of its view

  finalizes_alike : (a : ArtifactFacts D) (c : ProposalFacts D) → are_of_one_kind a (Accepted (Finalized c)) ≡ true
      → is_finalization_entry a ≡ true
  finalizes_alike (Accepted (Finalized _)) c is = refl
  finalizes_alike _ c is = absurd (false≢true is)

  none_alike : (entries : List (ArtifactFacts D)) (c : ProposalFacts D)
      → stands c.proposal.round.view is_finalization_entry entries ≡ false → (a : ArtifactFacts D) → Contains entries a
      → are_alike a (Accepted (Finalized c)) ≡ false
  none_alike [] c none a h = absurd (omega (arith, h.1))
  none_alike (e ∷ rest) c none a h = elim (Contains-cases e rest a h) [
    | inl here ↦ subst (λ f. are_alike f (Accepted (Finalized c)) ≡ false) here
        (first (cases_Bool (are_alike e (Accepted (Finalized c)))))
    | inr later ↦ none_alike rest c (or_parts (entry_view e == c.proposal.round.view && is_finalization_entry e)
        (stands c.proposal.round.view is_finalization_entry rest) none).1 a later
  ]
    where
      or_parts : (b c : Bool) → (b || c) ≡ false → (b ≡ false) × (c ≡ false)
      or_parts true c is = absurd (false≢true (sym is))
      or_parts false c is = (refl, is)

      first : (are_alike e (Accepted (Finalized c)) ≡ true) ⊎ (are_alike e (Accepted (Finalized c)) ≡ false)
          → are_alike e (Accepted (Finalized c)) ≡ false
      first (inr is) = is
      first (inl is) =
          let parts = and_parts (entry_view e == c.proposal.round.view) (are_of_one_kind e (Accepted (Finalized c))) is
          in
          let out = (or_parts (entry_view e == c.proposal.round.view && is_finalization_entry e)
          (stands c.proposal.round.view is_finalization_entry rest) none).0 in
          absurd (false≢true (sym out ∙ (ap (λ b. b && is_finalization_entry e) parts.0 ∙ finalizes_alike e c parts.1)))

  -- the floor adds its finalization, or nothing
  floor_once : (entries : List (ArtifactFacts D)) (floor : FloorFacts D) → RecordsOnce entries
      → RecordsOnce (with_floor entries floor)
  floor_once entries (Genesis payload) once = once
  floor_once entries (FinalizedFloor c) once =
      elim (cases_Bool (stands c.proposal.round.view is_finalization_entry entries)) [
        | inl there ↦ rw there once
        | inr none ↦ rw none (distinct_push are_alike entries (Accepted (Finalized c)) (none_alike entries c none) once)
      ]

  floor_cases : (entries : List (ArtifactFacts D)) (floor : FloorFacts D) (a : ArtifactFacts D)
      → Contains (with_floor entries floor) a
      → Contains entries a ⊎ ((c : ProposalFacts D) × (floor_answer floor ≡ Some c) × (Accepted (Finalized c) ≡ a))
  floor_cases entries (Genesis payload) a h = inl h
  floor_cases entries (FinalizedFloor c) a h =
      by_record (stands c.proposal.round.view is_finalization_entry entries) refl h
    where
      by_record : (b : Bool) → stands c.proposal.round.view is_finalization_entry entries ≡ b
          → Contains (if b then entries else entries ++ Accepted (Finalized c) ∷ []) a
          → Contains entries a
          ⊎ ((d : ProposalFacts D) × (floor_answer (FinalizedFloor c) ≡ Some d) × (Accepted (Finalized d) ≡ a))
      by_record true is k = inl k
      by_record false is k = elim (Contains-push_cases entries (Accepted (Finalized c)) a k)
          [ inl old ↦ inl old | inr new ↦ inr (c, refl, new) ]

  -- the entries after a cut
  pruned_once : (retention : ℕ) (entries : List (ArtifactFacts D)) → RecordsOnce entries
      → RecordsOnce (pruned_entries retention entries)
  unfolding pruned_entries
  pruned_once retention entries once = distinct_filtered are_alike
      (λ e. nat_le (finalized_in entries - retention) (entry_view e)) entries once

  dropped_once : (closed n : ℕ) (entries : List (ArtifactFacts D)) → RecordsOnce entries
      → RecordsOnce (without_last closed n entries)
  dropped_once closed n entries once =
      let left = left_first closed n entries in
      distinct_left are_alike (without_last closed n entries) left.0 (subst RecordsOnce left.1 once)

module _ {K L D : Type 0} where
  cut_once : (m : MemberFacts K L D) (n : ℕ) (prune : Bool) → RecordsOnce m.entries
      → RecordsOnce (cut_member m n prune).entries
  cut_once m n false once = dropped_once m.closed n m.entries once
  cut_once m n true once = pruned_once m.retention (without_last m.closed n m.entries)
      (dropped_once m.closed n m.entries once)

  -- a pruning within the lifetime
  prune_keeps : (m : MemberFacts K L D) → KeepsOnce m → KeepsOnce (pruned_member m)
  prune_keeps m keeps = record {
    once = distinct_filtered are_alike (λ e. stays_within m (entry_view e)) m.entries
        keeps.once;
    shows = by_life m.life keeps.shows;
  }
    where
      by_life : (o : Option (StateFacts K L D)) → ShowsOn m.entries o → ShowsOn (pruned_member m).entries o
      by_life None shows = tt
      by_life (Some x) (low, shows) = (
        low,
        record {
          under = shows.under;
          clear = shows.clear;
          shown = λ a h over. shows.shown a (Contains-filtered (λ e. stays_within m (entry_view e)) m.entries a h) over;
        },
      )

  -- the record remains when the lifetime ends
  ended_keeps : (m : MemberFacts K L D) → RecordsOnce m.entries → KeepsOnce (without_lifetime m)
  ended_keeps m once = record { once = once; shows = tt }

module _ {K L D : Type 0} (same : D → D → Bool) (elect : Elect L) (term_length : ℕ) where
  -- a new lifetime from a copy by view
  new_life_keeps : (n : MemberFacts K L D) (start : StartFacts K L D) (copy : List (ArtifactFacts D))
      → HasTerms term_length start.setup → IsByView n.entries copy → RecordsOnce n.entries
      → KeepsOnce (new_lifetime same elect n start copy)
  new_life_keeps n start copy has by_view once =
      let x = new_state start.setup in
      let ends = entries_recover same elect x.settings x.me x.members x.elector x.terms x.elects_early start.now
      term_length start.floor copy (fresh_state term_length start.setup has) by_view.rising in
      record {
        once = floor_once n.entries start.floor once;
        shows = (
          ends.0,
          record {
            under = ends.1.reached;
            clear = ends.1.clear;
            shown = λ a h over. elim (floor_cases n.entries start.floor a h) [
              | inl old ↦ ends.1.shown a (same_entries n.entries copy (λ v. sym (by_view.of_each_view v)) a old) over
              | inr (c, is, here) ↦ subst (λ f. is_shown (recovered_state same elect x start.floor start.now copy)
                  f ≡ true) here (ends.1.still (Accepted (Finalized c))
                  (floor_stands same elect x.settings x.me x.members x.elector x.terms x.elects_early start.now
                  start.floor c is))
            ];
          },
        );
      }

  -- a restart
  restart_keeps : (m : MemberFacts K L D) (r : RestartFacts K L D) (result : Result (Unit {0}) RecoverError)
      (left : MemberFacts K L D) → HasTerms term_length r.start.setup → KeepsOnce m
      → IsRestart same elect m r result left → KeepsOnce left
  unfolding IsRestart
  restart_keeps m r result left has keeps restarts =
      by_test (retention_grows m r.prune r.start.setup.settings.view_retention) restarts
    where
      n : MemberFacts K L D
      n = cut_member m r.drop r.prune

      once : RecordsOnce n.entries
      once = cut_once m r.drop r.prune keeps.once

      by_error : (copy : List (ArtifactFacts D)) → IsByView n.entries copy → (o : Option RecoverError)
          → MatchOption o ((result ≡ Ok tt) × (left ≡ new_lifetime same elect n r.start copy))
          (λ e. (result ≡ Err e) × (left ≡ without_lifetime n)) → KeepsOnce left
      by_error copy by_view None (is, leaves) = rw leaves (new_life_keeps n r.start copy has by_view once)
      by_error copy by_view (Some e) (is, leaves) = rw leaves (ended_keeps n once)

      by_test : (b : Bool) → IsRestartWhere same elect b m r result left → KeepsOnce left
      by_test true (is, leaves) = rw leaves keeps
      by_test false (inl (is, leaves)) = rw leaves (ended_keeps n once)
      by_test false (inr (copy, by_view, goes)) =
          by_error copy by_view (recover_error same (new_state r.start.setup) r.start.floor r.start.now copy) goes

  -- a call
  answered : 0 < term_length → (trace : List (TraceEvent D)) (m : MemberFacts K L D) (call : CallFacts D)
      (x : StateFacts K L D) → m.life ≡ Some x → MemberLives term_length trace m → KeepsOnce m
      → KeepsOnce (left_of same elect x m call)
  answered some trace m call x alive lives keeps = by_allowed (is_allowed x m.outstanding_work call) refl
    where
      called : is_allowed x m.outstanding_work call ≡ true
          → (life : LivesOn term_length trace m.closed lives.0 m.entries m.outstanding_work (Some x))
          → (shows : ShowsOn m.entries (Some x))
          → RecordsOnce (m.entries ++ recorded_by same elect x call)
          × ShowsOn (m.entries ++ recorded_by same elect x call)
          (Some (after_call same elect x m.outstanding_work call))
      called allowed life (low, shows) =
          let stays = life.keeps.stays in
          let terms = stays.stands.terms in
          let later = call_shows same elect low m.entries x (omega (arith, some, terms)) stays.ahead shows
          m.outstanding_work call allowed in
          let newly = newly_recorded same elect low x shows.under shows.clear stays.ahead life.noted.2.placed
          m.outstanding_work call allowed in
          let grown = grows_once low later.0 m.entries x (after_call same elect x m.outstanding_work call)
          (recorded_by same elect x call) shows later.1 newly keeps.once in
          (grown.0, (later.0, grown.1))

      by_fault : (o : Option Fault) → fault_of x call ≡ o → is_allowed x m.outstanding_work call ≡ true
          → KeepsOnce (left_of same elect x m call)
      by_fault None no_fault allowed =
          let grown = called allowed (subst (λ life.
          LivesOn term_length trace m.closed lives.0 m.entries m.outstanding_work life) alive lives.1)
          (subst (ShowsOn m.entries) alive keeps.shows) in
          rw (allowed, no_fault) (record { once = grown.0; shows = grown.1 })
      by_fault (Some f) refused allowed = rw (allowed, refused) keeps

      by_allowed : (b : Bool) → is_allowed x m.outstanding_work call ≡ b → KeepsOnce (left_of same elect x m call)
      by_allowed true allowed = by_fault (fault_of x call) refl allowed
      by_allowed false not_allowed = rw not_allowed keeps

  call_keeps : 0 < term_length → (trace : List (TraceEvent D)) (m : MemberFacts K L D) (call : CallFacts D)
      (replied : ReplyFacts K D) (left : MemberFacts K L D) → MemberLives term_length trace m → KeepsOnce m
      → IsCall same elect m call replied left → KeepsOnce left
  unfolding IsCall
  call_keeps some trace m call replied left lives keeps is_call = by_life m.life refl is_call
    where
      by_life : (o : Option (StateFacts K L D)) → m.life ≡ o → AnswersAlive same elect o m call replied left
          → KeepsOnce left
      by_life None dead (tells, leaves) = rw leaves keeps
      by_life (Some x) alive (inl (tells, leaves)) = rw leaves (answered some trace m call x alive lives keeps)
      by_life (Some x) alive (inr (_, tells, inl (_, leaves))) = rw leaves keeps
      by_life (Some x) alive (inr (_, tells, inr (_, _, leaves))) = rw leaves (ended_keeps m keeps.once)

module _ {K L D : Type 0} (same : D → D → Bool) (decides : (d e : D) → same d e ≡ true → d ≡ e) (elect : Elect L)
    (term_length : ℕ) (some : 0 < term_length) where
  -- a step
  step_keeps : (step : StepFacts K L D) (steps : List (StepFacts K L D)) (replied : ReplyFacts K D)
      (trace : List (TraceEvent D)) (m next : MemberFacts K L D) → KeepTerms term_length (step ∷ steps)
      → MemberLives term_length trace m → KeepsOnce m → IsStep same elect m step replied next → KeepsOnce next
  step_keeps (Calls call) steps replied trace m next fresh lives keeps is_step =
      call_keeps same elect term_length some trace m call replied next lives keeps is_step
  step_keeps Prunes steps replied trace m next fresh lives keeps is_step = rw is_step.1 (prune_keeps m keeps)
  step_keeps (Restarts r) steps replied trace m next fresh lives keeps is_step =
      restart_keeps same elect term_length m r is_step.0 next fresh.0 keeps is_step.1

  run_keeps : (steps : List (StepFacts K L D)) (replies : List (ReplyFacts K D)) (trace : List (TraceEvent D))
      (m end : MemberFacts K L D) → KeepTerms term_length steps → MemberLives term_length trace m → KeepsOnce m
      → IsRun same elect m steps replies end → KeepsOnce end
  run_keeps [] [] trace m end fresh lives keeps run = subst KeepsOnce run keeps
  run_keeps [] (replied ∷ replies) trace m end fresh lives keeps run = absurd run
  run_keeps (step ∷ steps) [] trace m end fresh lives keeps run = absurd run
  run_keeps (step ∷ steps) (replied ∷ replies) trace m end fresh lives keeps (next, is_step, rest) =
      let kept = step_lives same decides elect term_length some step steps replied trace m next fresh lives is_step in
      run_keeps steps replies (trace ++ trace_at step replied) next end kept.0 kept.1
      (step_keeps step steps replied trace m next fresh lives keeps is_step) rest

module _ {K L D : Type 0} (same : D → D → Bool) (decides : (d e : D) → same d e ≡ true → d ≡ e) (elect : Elect L)
    (term_length : ℕ) (start : StartFacts K L D) (begins : HasTerms term_length start.setup) where
  start_keeps : KeepsOnce (new_member same elect start)
  unfolding IsDistinct recovered_state
  start_keeps =
      let none : List (ArtifactFacts D) = [] in
      let empty : MemberFacts K L D = record (new_member same elect start) { entries = none } in
      let by_view : IsByView none none =
      record { rising = λ i j d low within. absurd (omega (arith, within)); of_each_view = λ v. refl } in
      let first = new_life_keeps same elect term_length empty start none begins by_view tt in
      record { once = first.once; shows = first.shows }

  -- a run from a start records no two entries of one kind and one view
  pub run_records_once : (steps : List (StepFacts K L D)) (replies : List (ReplyFacts K D)) (end : MemberFacts K L D)
      → KeepTerms term_length steps → IsRun same elect (new_member same elect start) steps replies end
      → RecordsOnce end.entries
  run_records_once steps replies end fresh run =
      (run_keeps same decides elect term_length begins.some steps replies (of_floor start.floor)
      (new_member same elect start) end fresh (start_lives same decides elect term_length start begins) start_keeps
      run).once
