-- What the trace of a member shows of its state: what led it to its current view, over all its lifetimes.
use Rattle.std.proofs.Common.{◌≡◌, refl, ap, sym, ◌∙◌, subst, ℕ, ◌<◌, ◌≤◌, inl, inr, Bool, true, false, ◌||◌, if◌then◌else◌, nat_lt, map, List, [], ◌∷◌, ◌++◌, append_assoc, append-nil, Option, Some, None, Result, Ok, Err, arith}
use Rattle.std.specs.Prelude.{MatchOption, Contains, ◌==◌}
use Rattle.std.proofs.lemmas.Bool.{false≢true, true≢false, eqb-true, cases_lt}
use Rattle.std.proofs.lemmas.List.Elements.{Contains-append_left}
use Rattle.simplex_types.specs.Certificates.{ArtifactFacts, NotarizeVote, NullifyVote, FinalizeVote, Verdict, Accepted, Notarized, Nullified, Finalized}
use Rattle.simplex_types.specs.Terms.{covers, next_term_start}
use Rattle.simplex_types.specs.declared.types.messages.Proposal.{Proposal}
use Rattle.simplex_types.specs.declared.types.messages.Subject.TheVariants as subject
use Rattle.simplex_types.specs.declared.types.numbers.Round.{Round}
use Rattle.simplex_types.proofs.Covers.{covers_from, same_start}
use Rattle.simplex_voter.specs.Acceptance.{after_set_floor}
use Rattle.simplex_voter.specs.Facts.{StateFacts, Elect}
use Rattle.simplex_voter.specs.Windows.{min_active}
use Rattle.simplex_record.specs.declared.record.error.RecoverError.{RecoverError}
use Rattle.simplex_record.specs.Check.{first_error, recovery_floor_rules, first_broken_after, first_recover_error}
use Rattle.simplex_record.specs.Entries.{entry_view}
use Rattle.simplex_record.specs.Events as event
use Rattle.simplex_record.specs.Events.{Event, IsEvent, after_event, is_prune}
use Rattle.simplex_record.specs.Recovery.{as_artifact, after_replaying, after_entry, after_kept_entry, after_entries, recovered_state, recover_error, TakesEntry, TakesEntries}
use Rattle.simplex_record.specs.Start.{StartFacts, new_state}
use Rattle.simplex_record.proofs.AllowedRecords.{new_bears}
use Rattle.simplex_record.proofs.HeldEntries.{BearsAll}
use Rattle.simplex_record.proofs.Recoveries.{set_takes}
use Rattle.simplex_record.proofs.Start.{good_floor}
use Rattle.simplex_member.specs.CallConditions.{is_allowed}
use Rattle.simplex_member.specs.Calls.{CallFacts, ReplyFacts}
use Rattle.simplex_member.specs.CallSemantics.{after_call}
use Rattle.simplex_member.specs.MemberFacts.{MemberFacts, IsCall, without_lifetime}
use Rattle.simplex_member.specs.OutstandingWork.{OutstandingWork, is_among}
use Rattle.simplex_member.specs.Restarts.{RestartFacts, cut_member, new_lifetime, retention_grows, RecoversByView, IsRestart, IsRestartWhere}
use Rattle.simplex_member.specs.Runs.{StepFacts, Calls, Prunes, Restarts, IsStep, IsRun}
use Rattle.laws_safety.specs.Executions.{new_member, Execution, trace_of}
use Rattle.laws_safety.specs.MemberHistory.{HasExecution, HasHistory}
use Rattle.laws_safety.specs.TermLengths.{KeepTerms}
use Rattle.laws_safety.specs.Traces.{TraceEvent, Accepts, of_floor, trace_at, trace_of_steps}
use Rattle.laws_safety.proofs.frames.CallsMake.{is_floor, call_by_event}
use Rattle.laws_safety.proofs.frames.RunsKeep.{HoldsIn}
use Rattle.laws_safety.proofs.lists.Splits.{Contains-cons_rest}
use Rattle.laws_safety.proofs.lives.WithinLives.{call_outcome}
use Rattle.laws_safety.proofs.records.NewLives.{first_none}
use Rattle.laws_safety.proofs.records.RunsLawful.{LivesOn, MemberLives, keep_terms, start_lives, step_lives}
use Rattle.laws_safety.proofs.votes.ShownVotes.{HasFinal}
use Rattle.laws_history.proofs.Lives.{entry_back, entries_back, view_back}
use Rattle.laws_meetings.specs.TrackedCertificates.{has_certified}
use Rattle.laws_meetings.proofs.LedViews.{IsLedAhead, IsUncovered, event_led, floor_led}

-- ---- a lifetime that begins with a floor and a record

module _ {K L D : Type 0} (same : D → D → Bool) (decides : (d e : D) → same d e ≡ true → d ≡ e) (elect : Elect L)
    (now : ℕ) where
  -- an event that prunes nothing
  pub kept_led : (x : StateFacts K L D) (e : Event K D) → IsEvent x e → is_floor e ≡ false → is_prune e ≡ false
      → IsLedAhead x → IsLedAhead (after_event same elect x e)
  kept_led x e takes no_floor no_prune since =
      event_led same decides elect x e takes no_floor since (λ prunes. absurd (true≢false (sym prunes ∙ no_prune)))

  retaken_led : (x : StateFacts K L D) (e : ArtifactFacts D)
      → TakesEntry (λ b. b) same elect x now (as_artifact {K = K} e) → IsLedAhead x
      → IsLedAhead (after_entry same elect x now e)
  retaken_led x (NotarizeVote p signer) takes since =
      kept_led x (event.Replay (NotarizeVote p signer)) takes.replays refl refl since
  retaken_led x (NullifyVote round signer) takes since =
      kept_led x (event.Replay (NullifyVote round signer)) takes.replays refl refl since
  retaken_led x (FinalizeVote p signer) takes since =
      kept_led x (event.Replay (FinalizeVote p signer)) takes.replays refl refl since
  retaken_led x (Verdict round success) takes since =
      kept_led (after_replaying same elect x (Verdict round success)) (event.Certified round.view success now)
      takes.gives refl refl (kept_led x (event.Replay (Verdict round success)) takes.replays refl refl since)
  retaken_led x (Accepted (Notarized c)) takes since =
      kept_led (after_event same elect x (event.AddNotarization c)) (event.Replay (Accepted (Notarized c)))
      takes.replays refl refl (kept_led x (event.AddNotarization c) takes.kept refl refl since)
  retaken_led x (Accepted (Nullified c)) takes since =
      kept_led (after_event same elect x (event.AddNullification c now)) (event.Replay (Accepted (Nullified c)))
      takes.replays refl refl (kept_led x (event.AddNullification c now) takes.kept refl refl since)
  retaken_led x (Accepted (Finalized c)) takes since =
      kept_led (after_event same elect x (event.AddFinalization c now)) (event.Replay (Accepted (Finalized c)))
      takes.replays refl refl (kept_led x (event.AddFinalization c now) takes.kept refl refl since)

  taken_led : (x : StateFacts K L D) (e : ArtifactFacts D)
      → (nat_lt (entry_view e) (min_active x) ≡ false → TakesEntry (λ b. b) same elect x now (as_artifact {K = K} e))
      → IsLedAhead x → IsLedAhead (after_kept_entry same elect x now e)
  unfolding after_kept_entry
  taken_led x e takes since = by_view (nat_lt (entry_view e) (min_active x)) refl
    where
      by_view : (b : Bool) → nat_lt (entry_view e) (min_active x) ≡ b
          → IsLedAhead (if b then x else after_entry same elect x now e)
      by_view true below = since
      by_view false above = retaken_led x e (takes above) since

  entries_led : (entries : List (ArtifactFacts D)) (x : StateFacts K L D)
      → TakesEntries (λ b. b) same elect x now (map (as_artifact {K = K}) entries) → IsLedAhead x
      → IsLedAhead (after_entries same elect x now entries)
  entries_led [] x takes since = since
  entries_led (e ∷ rest) x takes since =
      let next = taken_led x e
      (λ above. takes.0.taken (ap (λ v. nat_lt v (min_active x)) (view_back K e) ∙ above)) since in
      entries_led rest (after_kept_entry same elect x now e)
      (subst (λ a. TakesEntries (λ b. b) same elect (after_kept_entry same elect x now a) now
      (map (as_artifact {K = K}) rest)) (entry_back K e) takes.1) next

module _ {K L D : Type 0} (same : D → D → Bool) (decides : (d e : D) → same d e ≡ true → d ≡ e) (elect : Elect L)
    (start : StartFacts K L D) where
  unbroken_led : (entries : List (ArtifactFacts D))
      → first_recover_error same start.setup.settings.epoch start.setup.me start.floor entries ≡ None
      → IsLedAhead (recovered_state same elect (new_state start.setup) start.floor start.now entries)
  unfolding recovered_state first_recover_error
  unbroken_led entries none =
      let x : StateFacts K L D = new_state start.setup in
      let y : StateFacts K L D = after_set_floor same elect x start.floor start.now in
      let good = (first_none (first_error (recovery_floor_rules x.settings.epoch start.floor))
      (first_broken_after same x.settings.epoch x.me [] entries) none).0 in
      let bears : BearsAll [] x = new_bears x.settings x.me x.members x.elector x.terms x.elects_early in
      let going : x.failed ≡ false = refl in
      let takes : TakesEntries (λ b. b) same elect y start.now (map (as_artifact {K = K}) entries) =
      set_takes same elect x start.floor start.now (λ b. b) (map (as_artifact {K = K}) entries) going bears
      (subst (λ es. first_recover_error same x.settings.epoch x.me start.floor es ≡ None)
      (sym (entries_back K entries)) none) in
      entries_led same decides elect start.now entries y takes
      (floor_led same decides elect x start.floor start.now (good_floor x refl start.floor good) refl refl)

  recovered_led : (entries : List (ArtifactFacts D))
      → recover_error same (new_state start.setup) start.floor start.now entries ≡ None
      → IsLedAhead (recovered_state same elect (new_state start.setup) start.floor start.now entries)
  recovered_led entries none = unbroken_led entries (first_none
      (first_recover_error same start.setup.settings.epoch start.setup.me start.floor entries) _ none).0

-- ---- the steps of a member

module _ {K L D : Type 0} (same : D → D → Bool) (decides : (d e : D) → same d e ≡ true → d ≡ e) (elect : Elect L)
    (m : MemberFacts K L D) where
  abbrev Keeps : StateFacts K L D → StateFacts K L D → Type 0
  Keeps x y = IsUncovered x x → IsLedAhead x → IsLedAhead y

  answered : (call : CallFacts D) (x : StateFacts K L D) (o : OutstandingWork K D) → is_allowed x o call ≡ true
      → Keeps x (after_call same elect x o call)
  answered call x o allowed =
      call_by_event same elect x o (λ es y. Keeps x y) (λ uncovered since. since)
      (λ e takes no_floor uncovered since. event_led same decides elect x e takes no_floor since (λ prunes. uncovered))
      call allowed

  called_led : (call : CallFacts D) (replied : ReplyFacts K D) (left : MemberFacts K L D)
      → IsCall same elect m call replied left → HoldsIn (λ x. IsUncovered x x) m.life → HoldsIn IsLedAhead m.life
      → HoldsIn IsLedAhead left.life
  called_led call replied left is uncovered since =
      elim (call_outcome same elect (λ c r. Keeps) (λ c fault x uncovered since. since) (λ c x uncovered since. since)
      answered m call replied left is) [
        | inl (fault, tells, dies) ↦ subst (HoldsIn IsLedAhead) (sym dies) tt
        | inr (x, y, alive, lives, keeps) ↦ subst (HoldsIn IsLedAhead) (sym lives)
            (keeps (subst (HoldsIn (λ z. IsUncovered z z)) alive uncovered)
            (subst (HoldsIn IsLedAhead) alive since))
      ]

  from_copy : (n : MemberFacts K L D) (start : StartFacts K L D) (result : Result (Unit {0}) RecoverError)
      (left : MemberFacts K L D) → RecoversByView same elect n start result left → HoldsIn IsLedAhead left.life
  from_copy n start result left (inl (is, leaves)) = rw leaves tt
  from_copy n start result left (inr (copy, by_view, goes)) =
      by_error (recover_error same (new_state start.setup) start.floor start.now copy) refl goes
    where
      by_error : (o : Option RecoverError) → recover_error same (new_state start.setup) start.floor start.now copy ≡ o
          → MatchOption o ((result ≡ Ok tt) × (left ≡ new_lifetime same elect n start copy))
          (λ e. (result ≡ Err e) × (left ≡ without_lifetime n)) → HoldsIn IsLedAhead left.life
      by_error None none (_, leaves) = rw leaves (recovered_led same decides elect start copy none)
      by_error (Some e) due (_, leaves) = rw leaves tt

  restarted_led : (r : RestartFacts K L D) (result : Result (Unit {0}) RecoverError) (left : MemberFacts K L D)
      → HoldsIn IsLedAhead m.life → IsRestart same elect m r result left → HoldsIn IsLedAhead left.life
  unfolding IsRestart
  restarted_led r result left since restarts =
      by_test (retention_grows m r.prune r.start.setup.settings.view_retention) restarts
    where
      by_test : (b : Bool) → IsRestartWhere same elect b m r result left → HoldsIn IsLedAhead left.life
      by_test true (_, leaves) = rw leaves since
      by_test false goes = from_copy (cut_member m r.drop r.prune) r.start result left goes

  stepped_led : (step : StepFacts K L D) (replied : ReplyFacts K D) (next : MemberFacts K L D)
      → IsStep same elect m step replied next → HoldsIn (λ x. IsUncovered x x) m.life → HoldsIn IsLedAhead m.life
      → HoldsIn IsLedAhead next.life
  stepped_led (Calls call) replied next is uncovered since = called_led call replied next is uncovered since
  stepped_led Prunes replied next is uncovered since = rw is.1 since
  stepped_led (Restarts r) replied next is uncovered since = restarted_led r is.0 next since is.1

-- ---- what a trace shows

-- of the certificates that were accepted, no nullification covers a finalized view
abbrev pub CoversNoFinal : {D : Type 0} → ℕ → List (TraceEvent D) → Type 0
CoversNoFinal {D} term_length trace =
    (final : Proposal D) (round : Round) → Contains trace (Accepts (subject.Finalize final))
    → Contains trace (Accepts (subject.Nullify round)) → covers term_length round.view final.round.view ≡ false

-- a view that is not covered lies above the term
pub past_term : (term_length v w : ℕ) → 1 ≤ v → v ≤ w → covers term_length v w ≡ false
    → next_term_start term_length v ≤ w
past_term term_length v w some above uncovered = elim (cases_lt w (next_term_start term_length v)) [
  | inl within ↦ absurd (true≢false (sym (covers_from term_length v w above
      (sym (same_start term_length v w some above within))) ∙ uncovered))
  | inr past ↦ past
]

among_contained : (v : ℕ) (views : List ℕ) → is_among v views ≡ true → Contains views v
among_contained v [] is = absurd (false≢true is)
among_contained v (u ∷ views) is = by_test (λ found. among_contained v views found) (v == u) refl is
  where
    by_test : (is_among v views ≡ true → Contains views v) → (b : Bool) → (v == u) ≡ b
        → (b || is_among v views) ≡ true → Contains (u ∷ views) v
    by_test later true at found = subst (Contains (u ∷ views)) (sym (eqb-true v u at)) (0, omega arith, refl)
    by_test later false apart found = Contains-cons_rest u views v (later found)

-- what a state shows of the trace of its member
pub record ShowsTrace {K L D : Type 0} (term_length : ℕ) (trace : List (TraceEvent D)) (x : StateFacts K L D)
    : Type 0 where
  pub some_views : 0 < term_length
  pub terms : x.terms.term_length ≡ term_length
  pub ahead : x.finalized < x.current
  pub certified : (v : ℕ) → has_certified x v ≡ true → v < x.current
  pub final : HasFinal trace x.finalized
  pub nullified : (v : ℕ) → is_among v x.nullified ≡ true
      → (round : Round) × Contains trace (Accepts (subject.Nullify round)) × (round.view ≡ v)

module _ {K L D : Type 0} (term_length : ℕ) (trace : List (TraceEvent D)) (some_views : 0 < term_length) where
  shows_trace : (m : MemberFacts K L D) → MemberLives term_length trace m
      → HoldsIn (ShowsTrace term_length trace) m.life
  shows_trace m lives = by_life m.life lives.1
    where
      by_life : (o : Option (StateFacts K L D))
          → LivesOn term_length trace m.closed lives.0 m.entries m.outstanding_work o
          → HoldsIn (ShowsTrace term_length trace) o
      by_life None ended = tt
      by_life (Some x) living = record {
        some_views = some_views;
        terms = living.keeps.stays.stands.terms;
        ahead = living.keeps.stays.ahead;
        certified = λ v is. (living.keeps.stays.stands.rounds v).entered is;
        final = living.keeps.stays.final;
        nullified = λ v is. living.noted.2.covered v (among_contained v x.nullified is);
      }

-- of two states, each of which shows its trace
pub not_covered : {K L D : Type 0} (term_length : ℕ) (trace other : List (TraceEvent D)) (x y : StateFacts K L D)
    → ((final : Proposal D) (round : Round) → Contains other (Accepts (subject.Finalize final))
    → Contains trace (Accepts (subject.Nullify round)) → covers term_length round.view final.round.view ≡ false)
    → ShowsTrace term_length trace x → ShowsTrace term_length other y → IsUncovered x y
not_covered term_length trace other x y none shows shows_other v known some above =
    let nullified = shows.nullified v known in
    elim shows_other.final [
      | inl genesis ↦ absurd (omega (arith, genesis, some, above))
      | inr (final, has, at) ↦ subst (λ t. next_term_start t v ≤ y.finalized) (sym shows.terms)
          (past_term term_length v y.finalized some above
          (subst (λ w. covers term_length v w ≡ false) at
          (subst (λ u. covers term_length u final.round.view ≡ false) nullified.2
          (none final nullified.0 has nullified.1))))
    ]

module _ {K L D : Type 0} (same : D → D → Bool) (decides : (d e : D) → same d e ≡ true → d ≡ e) (elect : Elect L)
    (term_length : ℕ) (some_views : 0 < term_length) where
  uncovered_in : (trace more : List (TraceEvent D)) (m : MemberFacts K L D) → MemberLives term_length trace m
      → CoversNoFinal term_length (trace ++ more) → HoldsIn (λ x. IsUncovered x x) m.life
  uncovered_in trace more m lives none = by_life m.life (shows_trace term_length trace some_views m lives)
    where
      by_life : (o : Option (StateFacts K L D)) → HoldsIn (ShowsTrace term_length trace) o
          → HoldsIn (λ x. IsUncovered x x) o
      by_life None ended = tt
      by_life (Some x) shows = not_covered term_length trace trace x x
          (λ final round is_final is_nullified. none final round
          (Contains-append_left trace more (Accepts (subject.Finalize final)) is_final)
          (Contains-append_left trace more (Accepts (subject.Nullify round)) is_nullified)) shows shows

  run_led : (steps : List (StepFacts K L D)) (replies : List (ReplyFacts K D)) (trace : List (TraceEvent D))
      (m end : MemberFacts K L D) → KeepTerms term_length steps → MemberLives term_length trace m
      → HoldsIn IsLedAhead m.life → IsRun same elect m steps replies end
      → CoversNoFinal term_length (trace ++ trace_of_steps steps replies)
      → MemberLives term_length (trace ++ trace_of_steps steps replies) end × HoldsIn IsLedAhead end.life
  run_led [] [] trace m end keep lives since run none = (
    subst (λ all. MemberLives term_length all end) (sym (append-nil trace))
        (subst (MemberLives term_length trace) run lives),
    subst (λ (n : MemberFacts K L D). HoldsIn IsLedAhead n.life) run since,
  )
  run_led [] (replied ∷ replies) trace m end keep lives since run none = absurd run
  run_led (step ∷ steps) [] trace m end keep lives since run none = absurd run
  run_led (step ∷ steps) (replied ∷ replies) trace m end keep lives since (next, is_step, rest) none =
      let kept = step_lives same decides elect term_length some_views step steps replied trace m next keep lives
      is_step in
      let joined = append_assoc trace (trace_at step replied) (trace_of_steps steps replies) in
      let then_led = stepped_led same decides elect m step replied next is_step
      (uncovered_in trace (trace_at step replied ++ trace_of_steps steps replies) m lives none) since in
      let last = run_led steps replies (trace ++ trace_at step replied) next end kept.0 kept.1 then_led rest
      (subst (CoversNoFinal term_length) (sym joined) none) in
      (subst (λ all. MemberLives term_length all end) joined last.0, last.1)

module _ {K L D : Type 0} (same : D → D → Bool) (decides : (d e : D) → same d e ≡ true → d ≡ e) (elect : Elect L)
    (term_length i : ℕ) where
  execution_led : (s : Execution K L D) (m : MemberFacts K L D) → HasExecution same elect term_length i s m
      → CoversNoFinal term_length (trace_of s) → MemberLives term_length (trace_of s) m × HoldsIn IsLedAhead m.life
  unfolding recovered_state
  execution_led s m has none =
      let begins = has.lives.first.terms in
      run_led same decides elect term_length begins.some s.steps s.replies (of_floor s.start.floor)
      (new_member same elect s.start) m (keep_terms term_length i s.steps has.lives.later)
      (start_lives same decides elect term_length s.start begins)
      (recovered_led same decides elect s.start [] has.accepted) has.run none

  -- a member with a history
  pub history_led : (trace : List (TraceEvent D)) (m : MemberFacts K L D)
      → HasHistory same elect term_length i trace m → CoversNoFinal term_length trace
      → HoldsIn (ShowsTrace term_length trace) m.life × HoldsIn IsLedAhead m.life
  history_led trace m has none =
      let s = has.execution in
      let last = execution_led s m has.executed (subst (CoversNoFinal term_length) (sym has.same_trace) none) in
      subst (λ all. HoldsIn (ShowsTrace term_length all) m.life × HoldsIn IsLedAhead m.life) has.same_trace
      (shows_trace term_length (trace_of s) has.executed.lives.first.terms.some m last.0, last.1)
