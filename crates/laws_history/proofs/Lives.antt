-- The calls of a member, its recoveries and its runs keep that its history shows what its state knows.
use Rattle.std.proofs.Common.{◌≡◌, inl, inr, refl, ap, sym, ◌∙◌, subst, ℕ, ◌-◌, Bool, true, false, nat_lt, if◌then◌else◌, List, [], ◌∷◌, Option, Some, None, Result, Ok, Err}
use Rattle.std.specs.Prelude.{map, MatchOption}
use Rattle.simplex_types.specs.Certificates.{ArtifactFacts, NotarizeVote, NullifyVote, FinalizeVote, Verdict, Accepted, Notarized, Nullified, Finalized, artifact_facts}
use Rattle.simplex_types.specs.MessageViews.{artifact_view}
use Rattle.simplex_types.specs.declared.types.fault.Fault.{Fault}
use Rattle.simplex_voter.specs.Facts.{StateFacts, Elect}
use Rattle.simplex_voter.specs.Windows.{min_active}
use Rattle.simplex_voter.specs.Acceptance.{after_set_floor, after_add_notarization, after_add_nullification, after_add_finalization}
use Rattle.simplex_record.specs.declared.record.error.RecoverError.{RecoverError}
use Rattle.simplex_member.specs.OutstandingWork.{OutstandingWork}
use Rattle.simplex_member.specs.Calls as calls
use Rattle.simplex_member.specs.Calls.{CallFacts, ReplyFacts, Restarted, NotRestarted}
use Rattle.simplex_member.specs.CallConditions.{is_allowed, fault_of}
use Rattle.simplex_member.specs.CallSemantics.{answer, after_call}
use Rattle.simplex_record.specs.Check.{first_error, recovery_floor_rules, first_broken_after, first_recover_error}
use Rattle.simplex_record.specs.Entries.{entry_view, entries_of}
use Rattle.laws_safety.specs.Executions.{new_member}
use Rattle.laws_history.specs.History.{History, with_event}
use Rattle.simplex_record.specs.Events.{SetFloor, AddNotarization, AddNullification, AddFinalization, Certified, Replay}
use Rattle.simplex_member.specs.Events.{events_of}
use Rattle.laws_history.specs.Histories.{retaken_events, with_events, with_call_events, with_entry_taken, with_entries, recovery, DeterminesMember, LeadsTo}
use Rattle.simplex_member.specs.MemberFacts.{MemberFacts, without_lifetime, reply_of, left_of, AnswersAlive, IsCall}
use Rattle.simplex_record.specs.Recovery.{as_artifact, after_replaying, after_entry, after_kept_entry, after_entries, recovered_state, recover_error, TakesEntry, TakesEntries}
use Rattle.simplex_member.specs.Restarts.{RestartFacts, IsByView, IsRestart, IsRestartWhere, RecoversByView, new_lifetime, cut_member, retention_grows}
use Rattle.simplex_member.specs.Runs.{StepFacts, Calls, Prunes, Restarts, restart_reply, IsRun}
use Rattle.laws_history.specs.HistoryFacts.{DeterminesState}
use Rattle.simplex_record.specs.Start.{Setup, StartFacts, new_state}
use Rattle.laws_history.specs.HistoryFolds.{finalized_by_events}
use Rattle.simplex_record.proofs.AllowedRecords.{new_bears}
use Rattle.simplex_record.proofs.HeldEntries.{BearsAll}
use Rattle.laws_safety.proofs.frames.CallsMake.{call_by_event}
use Rattle.laws_history.proofs.Events.{event_shown}
use Rattle.laws_safety.proofs.records.NewLives.{first_none}
use Rattle.simplex_record.proofs.Recoveries.{set_takes}
use Rattle.simplex_record.proofs.Start.{good_floor}

-- an entry is the artifact whose certificates are their bytes
pub entry_back : (K : Type 0) {D : Type 0} (e : ArtifactFacts D) → artifact_facts (λ b. b) (as_artifact {K = K} e) ≡ e
entry_back K (NotarizeVote p signer) = refl
entry_back K (NullifyVote round signer) = refl
entry_back K (FinalizeVote p signer) = refl
entry_back K (Verdict round success) = refl
entry_back K (Accepted (Notarized c)) = refl
entry_back K (Accepted (Nullified c)) = refl
entry_back K (Accepted (Finalized c)) = refl

pub entries_back : (K : Type 0) {D : Type 0} (es : List (ArtifactFacts D))
    → entries_of (λ b. b) (map (as_artifact {K = K}) es) ≡ es
entries_back K [] = refl
entries_back K (e ∷ es) = rw (entry_back K e, entries_back K es) refl

module _ {K L D : Type 0} (same : D → D → Bool) (elect : Elect L) where
  -- of a new state nothing was said
  pub begun_shown : (setup : Setup K L) → DeterminesState {D = D} same elect
      (record { fresh = new_state setup; events = [] }) (new_state setup)
  begun_shown setup = record {
    facts = refl;
    dropped = λ some v below. refl;
    nullified_dropped = λ v below. refl;
    votes_dropped = λ v below. refl;
    in_order = refl;
    settings = refl;
    terms = refl;
    genesis = refl;
    current = refl;
    finalized = refl;
    moment = refl;
    nullified = λ v kept. refl;
    nullify_votes = λ v kept. refl;
    verdict = λ v kept. refl;
    me = refl;
    members = refl;
    elector = refl;
    elects_early = refl;
    failed = refl;
    named = λ v. refl;
    tracked = λ v kept. refl;
    rounds = λ v kept. refl;
  }

  -- what returns is not refused
  replied_events : (history : History K L D) (x : StateFacts K L D) (o : OutstandingWork K D) (call : CallFacts D)
      → with_call_events history o call (answer same elect x o call) ≡ with_events history (events_of o call)
  replied_events history x o calls.GetBestCertificate = refl
  replied_events history x o _ = refl

module _ {K L D : Type 0} (same : D → D → Bool) (decides : (d e : D) → same d e ≡ true → d ≡ e) (elect : Elect L)
    (history : History K L D) (x : StateFacts K L D) (shows : DeterminesState same elect history x) where
  -- a call makes of the facts what its events make of them
  call_shown : (o : OutstandingWork K D) (call : CallFacts D) → is_allowed x o call ≡ true
      → DeterminesState same elect (with_events history (events_of o call)) (after_call same elect x o call)
  call_shown o call allowed = call_by_event same elect x o
      (λ es y. DeterminesState same elect (with_events history es) y) shows
      (λ e takes floor. event_shown same elect history x shows decides e takes) call allowed

  -- an entry that is taken again

  retaken_shown : (now : ℕ) (e : ArtifactFacts D) → TakesEntry (λ b. b) same elect x now (as_artifact {K = K} e)
      → DeterminesState same elect (with_events history (retaken_events now e)) (after_entry same elect x now e)
  retaken_shown now (NotarizeVote p signer) takes =
      event_shown same elect history x shows decides (Replay (NotarizeVote p signer)) takes.replays
  retaken_shown now (NullifyVote round signer) takes =
      event_shown same elect history x shows decides (Replay (NullifyVote round signer)) takes.replays
  retaken_shown now (FinalizeVote p signer) takes =
      event_shown same elect history x shows decides (Replay (FinalizeVote p signer)) takes.replays
  retaken_shown now (Verdict round success) takes =
      let e = Replay (Verdict round success) in
      event_shown same elect (with_event history e) (after_replaying same elect x (Verdict round success))
      (event_shown same elect history x shows decides e takes.replays) decides (Certified round.view success now)
      takes.gives
  retaken_shown now (Accepted (Notarized c)) takes =
      event_shown same elect (with_event history (AddNotarization c)) (after_add_notarization same elect x c)
      (event_shown same elect history x shows decides (AddNotarization c) takes.kept) decides
      (Replay (Accepted (Notarized c))) takes.replays
  retaken_shown now (Accepted (Nullified c)) takes =
      event_shown same elect (with_event history (AddNullification c now)) (after_add_nullification elect x c now)
      (event_shown same elect history x shows decides (AddNullification c now) takes.kept) decides
      (Replay (Accepted (Nullified c))) takes.replays
  retaken_shown now (Accepted (Finalized c)) takes =
      event_shown same elect (with_event history (AddFinalization c now)) (after_add_finalization same elect x c now)
      (event_shown same elect history x shows decides (AddFinalization c now) takes.kept) decides
      (Replay (Accepted (Finalized c))) takes.replays

  taken_shown : (now : ℕ) (e : ArtifactFacts D)
      → (nat_lt (entry_view e) (min_active x) ≡ false → TakesEntry (λ b. b) same elect x now (as_artifact {K = K} e))
      → DeterminesState same elect (with_entry_taken history now e) (after_kept_entry same elect x now e)
  unfolding after_kept_entry
  taken_shown now e takes = by_view (nat_lt (entry_view e) (min_active x)) refl
    where
      lowest_alike : finalized_by_events history.events - history.fresh.settings.view_retention ≡ min_active x
      lowest_alike = ap (λ n. n - history.fresh.settings.view_retention) (sym shows.finalized)
          ∙ ap (λ s. x.finalized - s.view_retention) (sym shows.settings)

      by_view : (b : Bool) → nat_lt (entry_view e) (min_active x) ≡ b
          → DeterminesState same elect (if nat_lt (entry_view e)
          (finalized_by_events history.events - history.fresh.settings.view_retention) then history else with_events
          history (retaken_events now e))
          (if nat_lt (entry_view e) (min_active x) then x else after_entry same elect x now e)
      by_view true below = rw (lowest_alike, below) shows
      by_view false above = rw (lowest_alike, above) (retaken_shown now e (takes above))

-- the view of an entry's artifact
pub view_back : (K : Type 0) {D : Type 0} (e : ArtifactFacts D) → artifact_view (as_artifact {K = K} e) ≡ entry_view e
view_back K (NotarizeVote p signer) = refl
view_back K (NullifyVote round signer) = refl
view_back K (FinalizeVote p signer) = refl
view_back K (Verdict round success) = refl
view_back K (Accepted (Notarized c)) = refl
view_back K (Accepted (Nullified c)) = refl
view_back K (Accepted (Finalized c)) = refl

module _ {K L D : Type 0} (same : D → D → Bool) (decides : (d e : D) → same d e ≡ true → d ≡ e) (elect : Elect L)
    (now : ℕ) where
  entries_shown : (entries : List (ArtifactFacts D)) (history : History K L D) (x : StateFacts K L D)
      → DeterminesState same elect history x → TakesEntries (λ b. b) same elect x now
      (map (as_artifact {K = K}) entries) → DeterminesState same elect (with_entries history now entries)
      (after_entries same elect x now entries)
  entries_shown [] history x shows takes = shows
  entries_shown (e ∷ rest) history x shows takes =
      let y = after_kept_entry same elect x now e in
      let next : DeterminesState same elect (with_entry_taken history now e) y =
      taken_shown same decides elect history x shows now e
      (λ above. takes.0.taken (ap (λ v. nat_lt v (min_active x)) (view_back K e) ∙ above)) in
      entries_shown rest (with_entry_taken history now e) y next
      (subst (λ a. TakesEntries (λ b. b) same elect (after_kept_entry same elect x now a) now
      (map (as_artifact {K = K}) rest)) (entry_back K e) takes.1)

module _ {K L D : Type 0} (same : D → D → Bool) (decides : (d e : D) → same d e ≡ true → d ≡ e) (elect : Elect L)
    (start : StartFacts K L D) where
  -- a floor that breaks no rule
  floor_shown : first_error (recovery_floor_rules start.setup.settings.epoch start.floor) ≡ None
      → DeterminesState same elect (record {
        fresh = new_state start.setup;
        events = SetFloor start.floor start.now ∷ [];
      })
      (after_set_floor same elect (new_state start.setup) start.floor start.now)
  floor_shown good = event_shown same elect (record { fresh = new_state start.setup; events = [] })
      (new_state start.setup) (begun_shown same elect start.setup) decides (SetFloor start.floor start.now)
      (good_floor (new_state start.setup) refl start.floor good)

  unbroken_shown : (entries : List (ArtifactFacts D))
      → first_recover_error same start.setup.settings.epoch start.setup.me start.floor entries ≡ None
      → DeterminesState same elect (recovery start entries)
      (recovered_state same elect (new_state start.setup) start.floor start.now entries)
  unfolding recovered_state first_recover_error
  unbroken_shown entries none =
      let x = new_state start.setup in
      let y = after_set_floor same elect x start.floor start.now in
      let good = (first_none (first_error (recovery_floor_rules x.settings.epoch start.floor))
      (first_broken_after same x.settings.epoch x.me [] entries) none).0 in
      let bears : BearsAll [] x = new_bears x.settings x.me x.members x.elector x.terms x.elects_early in
      let going : x.failed ≡ false = refl in
      let takes : TakesEntries (λ b. b) same elect y start.now (map (as_artifact {K = K}) entries) =
      set_takes same elect x start.floor start.now (λ b. b) (map (as_artifact {K = K}) entries) going bears
      (subst (λ es. first_recover_error same x.settings.epoch x.me start.floor es ≡ None)
      (sym (entries_back K entries)) none) in
      entries_shown same decides elect start.now entries
      (record { fresh = x; events = SetFloor start.floor start.now ∷ [] }) y (floor_shown good) takes

  pub recovered_shown : (entries : List (ArtifactFacts D))
      → recover_error same (new_state start.setup) start.floor start.now entries ≡ None
      → DeterminesState same elect (recovery start entries)
      (recovered_state same elect (new_state start.setup) start.floor start.now entries)
  recovered_shown entries none = unbroken_shown entries
      (first_none (first_recover_error same start.setup.settings.epoch start.setup.me start.floor entries) _ none).0

module _ {K L D : Type 0} (same : D → D → Bool) (decides : (d e : D) → same d e ≡ true → d ≡ e) (elect : Elect L)
    (m : MemberFacts K L D) where
  -- a call

  answered : (history : History K L D) (call : CallFacts D) (x : StateFacts K L D)
      → DeterminesMember same elect history m → DeterminesState same elect history x
      → DeterminesMember same elect (with_call_events history m.outstanding_work call
      (reply_of same elect x m.outstanding_work call)) (left_of same elect x m call)
  answered history call x shown shows = by_allowed (is_allowed x m.outstanding_work call) refl
    where
      by_fault : (o : Option Fault) → fault_of x call ≡ o → is_allowed x m.outstanding_work call ≡ true
          → DeterminesMember same elect (with_call_events history m.outstanding_work call
          (reply_of same elect x m.outstanding_work call)) (left_of same elect x m call)
      by_fault None no_fault allowed = rw (allowed, no_fault)
          (subst (λ h. DeterminesState same elect h (after_call same elect x m.outstanding_work call))
          (sym (replied_events same elect history x m.outstanding_work call))
          (call_shown same decides elect history x shows m.outstanding_work call allowed))
      by_fault (Some f) refused allowed = rw (allowed, refused) shown

      by_allowed : (b : Bool) → is_allowed x m.outstanding_work call ≡ b
          → DeterminesMember same elect (with_call_events history m.outstanding_work call
          (reply_of same elect x m.outstanding_work call)) (left_of same elect x m call)
      by_allowed true allowed = by_fault (fault_of x call) refl allowed
      by_allowed false not_allowed = rw not_allowed shown

  pub called_shown : (history : History K L D) (left : MemberFacts K L D) (call : CallFacts D)
      (replied : ReplyFacts K D)
      → DeterminesMember same elect history m → IsCall same elect m call replied left
      → DeterminesMember same elect (with_call_events history m.outstanding_work call replied) left
  unfolding IsCall
  called_shown history left call replied shown is_call = by_life m.life refl is_call
    where
      by_life : (o : Option (StateFacts K L D)) → m.life ≡ o → AnswersAlive same elect o m call replied left
          → DeterminesMember same elect (with_call_events history m.outstanding_work call replied) left
      by_life None dead (tells, leaves) = rw (tells, leaves) shown
      by_life (Some x) alive (inl (tells, leaves)) =
          rw (tells, leaves) (answered history call x shown
          (subst (λ o. MatchOption o (Unit {0}) (DeterminesState same elect history)) alive shown))
      by_life (Some x) alive (inr (_, tells, inl (_, leaves))) = rw (tells, leaves) shown
      by_life (Some x) alive (inr (_, tells, inr (_, _, leaves))) = rw (tells, leaves) tt

  -- a restart that is refused leaves a member that has failed, or the one that it was
  refused_shown : (history : History K L D) (left : MemberFacts K L D) (r : RestartFacts K L D)
      (result : Result (Unit {0}) RecoverError) (found : RecoverError) → result ≡ Err found
      → DeterminesMember same elect history m → IsRestart same elect m r result left
      → DeterminesMember same elect history left
  unfolding IsRestart
  refused_shown history left r result found refused shown restarts =
      by_test (retention_grows m r.prune r.start.setup.settings.view_retention) restarts
    where
      by_error : (o : Option RecoverError) (copy : List (ArtifactFacts D))
          → MatchOption o ((result ≡ Ok tt) × (left ≡ new_lifetime same elect (cut_member m r.drop r.prune) r.start
          copy)) (λ e. (result ≡ Err e) × (left ≡ without_lifetime (cut_member m r.drop r.prune)))
          → DeterminesMember same elect history left
      by_error None copy (is, leaves) = absurd (cc)
      by_error (Some e) copy (is, leaves) = rw leaves tt

      by_going : RecoversByView same elect (cut_member m r.drop r.prune) r.start result left
          → DeterminesMember same elect history left
      by_going (inl (is, leaves)) = rw leaves tt
      by_going (inr (copy, by_view, goes)) = by_error
          (recover_error same (new_state r.start.setup) r.start.floor r.start.now copy) copy goes

      by_test : (b : Bool) → IsRestartWhere same elect b m r result left → DeterminesMember same elect history left
      by_test true (is, leaves) = rw leaves shown
      by_test false goes = by_going goes

  -- one that is not refused

  from_copy : (n left : MemberFacts K L D) (start : StartFacts K L D) (result : Result (Unit {0}) RecoverError)
      (copy : List (ArtifactFacts D)) → result ≡ Ok tt
      → MatchOption (recover_error same (new_state start.setup) start.floor start.now copy)
      ((result ≡ Ok tt) × (left ≡ new_lifetime same elect n start copy))
      (λ e. (result ≡ Err e) × (left ≡ without_lifetime n)) → DeterminesMember same elect (recovery start copy) left
  from_copy n left start result copy well goes =
      by_error (recover_error same (new_state start.setup) start.floor start.now copy) refl goes
    where
      by_error : (o : Option RecoverError) → recover_error same (new_state start.setup) start.floor start.now copy ≡ o
          → MatchOption o ((result ≡ Ok tt) × (left ≡ new_lifetime same elect n start copy))
          (λ e. (result ≡ Err e) × (left ≡ without_lifetime n)) → DeterminesMember same elect (recovery start copy) left
      by_error None none (_, leaves) = rw leaves (recovered_shown same decides elect start copy none)
      by_error (Some e) due (is, leaves) = absurd (cc)

  pub restarted_shown : (left : MemberFacts K L D) (r : RestartFacts K L D) (result : Result (Unit {0}) RecoverError)
      → result ≡ Ok tt → IsRestart same elect m r result left
      → (copy : List (ArtifactFacts D)) × IsByView (cut_member m r.drop r.prune).entries copy
      × DeterminesMember same elect (recovery r.start copy) left
  unfolding IsRestart
  restarted_shown left r result well restarts =
      by_test (retention_grows m r.prune r.start.setup.settings.view_retention) restarts
    where
      by_going : RecoversByView same elect (cut_member m r.drop r.prune) r.start result left
          → (copy : List (ArtifactFacts D)) × IsByView (cut_member m r.drop r.prune).entries copy
          × DeterminesMember same elect (recovery r.start copy) left
      by_going (inl (is, leaves)) = absurd (cc)
      by_going (inr (copy, by_view, goes)) =
          (copy, by_view, from_copy (cut_member m r.drop r.prune) left r.start result copy well goes)

      by_test : (b : Bool) → IsRestartWhere same elect b m r result left
          → (copy : List (ArtifactFacts D)) × IsByView (cut_member m r.drop r.prune).entries copy
          × DeterminesMember same elect (recovery r.start copy) left
      by_test true (is, leaves) = absurd (cc)
      by_test false goes = by_going goes

module _ {K L D : Type 0} (same : D → D → Bool) (decides : (d e : D) → same d e ≡ true → d ≡ e) (elect : Elect L) where
  run_shown : (steps : List (StepFacts K L D)) (replies : List (ReplyFacts K D)) (history : History K L D)
      (m end : MemberFacts K L D) → DeterminesMember same elect history m → IsRun same elect m steps replies end
      → (last : History K L D) × LeadsTo same elect m history steps replies last end
      × DeterminesMember same elect last end
  run_shown [] [] history m end shown run =
      (history, (refl, run), subst (DeterminesMember same elect history) run shown)
  run_shown [] (replied ∷ replies) history m end shown run = absurd run
  run_shown (step ∷ steps) [] history m end shown run = absurd run
  run_shown (Calls call ∷ steps) (replied ∷ replies) history m end shown (next, is_step, rest) =
      let later = run_shown steps replies (with_call_events history m.outstanding_work call replied) next end
      (called_shown same decides elect m history next call replied shown is_step) rest in
      (later.0, (next, is_step, later.1), later.2)
  run_shown (Prunes ∷ steps) (replied ∷ replies) history m end shown (next, is_step, rest) =
      let still : DeterminesMember same elect history next = rw is_step.1 shown in
      let later = run_shown steps replies history next end still rest in
      (later.0, (next, is_step, later.1), later.2)
  run_shown (Restarts r ∷ steps) (replied ∷ replies) history m end shown (next, (result, is_restart, tells), rest) =
      by_result result refl is_restart (tells ∙ refl)
      (λ left_shown. run_shown steps replies history next end left_shown rest)
      (λ copy copy_shown. run_shown steps replies (recovery r.start copy) next end copy_shown rest)
    where
      After : ReplyFacts K D → Type 0
      After t = (last : History K L D) × LeadsTo same elect m history (Restarts r ∷ steps) (t ∷ replies) last end
          × DeterminesMember same elect last end

      by_result : (found : Result (Unit {0}) RecoverError) → result ≡ found → IsRestart same elect m r result next
          → replied ≡ restart_reply result
          → (DeterminesMember same elect history next
          → (last : History K L D) × LeadsTo same elect next history steps replies last end
          × DeterminesMember same elect last end)
          → ((copy : List (ArtifactFacts D)) → DeterminesMember same elect (recovery r.start copy) next
          → (last : History K L D) × LeadsTo same elect next (recovery r.start copy) steps replies last end
          × DeterminesMember same elect last end)
          → After replied
      by_result (Ok _) is restarts tells behind renewed =
          let found = restarted_shown same decides elect m next r result is restarts in
          let later = renewed found.0 found.2 in
          let so : replied ≡ Restarted = tells ∙ ap restart_reply is in
          subst After (sym so)
          (later.0, (next, (result, restarts, sym (ap restart_reply is)), (found.0, found.1, later.1)), later.2)
      by_result (Err e) is restarts tells behind renewed =
          let later = behind (refused_shown same decides elect m history next r result e is shown restarts) in
          let so : replied ≡ NotRestarted e = tells ∙ ap restart_reply is in
          subst After (sym so) (later.0, (next, (result, restarts, sym (ap restart_reply is)), later.1), later.2)

  -- from the start on
  pub ran_shown : (start : StartFacts K L D) (steps : List (StepFacts K L D)) (replies : List (ReplyFacts K D))
      (end : MemberFacts K L D) → recover_error same (new_state start.setup) start.floor start.now [] ≡ None
      → IsRun same elect (new_member same elect start) steps replies end
      → (last : History K L D) × LeadsTo same elect (new_member same elect start) (recovery start []) steps replies last
      end × DeterminesMember same elect last end
  unfolding recovered_state
  ran_shown start steps replies end good run =
      run_shown steps replies (recovery start []) (new_member same elect start) end
      (recovered_shown same decides elect start [] good) run
