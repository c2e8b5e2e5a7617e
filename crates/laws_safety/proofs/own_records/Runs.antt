-- The record of a member in a run, over all its lifetimes, is accepted again except for what comes from outside.
use Rattle.std.proofs.Common.{◌≡◌, refl, ap, sym, ◌∙◌, subst, ℕ, zero, suc, ◌-◌, ◌<◌, ◌⊎◌, inl, inr, Bool, true, false, ◌||◌, nat_le, is_some, List, [], ◌∷◌, ◌++◌, append_assoc, length, take, drop, filter, Option, Some, None, Result, Ok, Err, arith}
use Rattle.std.specs.Prelude.{◌==◌, MatchOption}
use Rattle.std.proofs.lemmas.Bool.{cases_Bool}
use Rattle.std.proofs.lemmas.List.{append-nil, take-append-drop}
use Rattle.simplex_types.specs.Certificates.{Notarized, Finalized, ArtifactFacts, Verdict, Accepted}
use Rattle.simplex_types.specs.Config.{FloorFacts, Genesis, Finalized as FinalizedFloor}
use Rattle.simplex_types.specs.declared.types.fault.Fault.{Fault}
use Rattle.simplex_voter.specs.Facts.{StateFacts, Elect, is_tracked}
use Rattle.simplex_record.specs.declared.record.error.RecoverError.{RecoverError}
use Rattle.simplex_record.specs.declared.record.error.RecoverError.TheVariants as error
use Rattle.simplex_member.specs.CallConditions.{is_allowed, fault_of}
use Rattle.simplex_member.specs.Calls.{CallFacts, ReplyFacts}
use Rattle.simplex_record.specs.Check.{stands}
use Rattle.simplex_record.specs.Cuts.{may_drop, without_last, finalized_in, pruned_entries}
use Rattle.simplex_record.specs.Entries.{entry_view}
use Rattle.simplex_member.specs.MemberFacts.{MemberFacts, IsCall, AnswersAlive, reply_of, left_of, without_lifetime}
use Rattle.laws_safety.specs.Executions.{new_member}
use Rattle.laws_safety.specs.RecordRefusals.{AcceptedParentAbove, is_floor_too_large, IsFromOutside, IsExcused, VerdictsFollowNotarizations}
use Rattle.simplex_record.specs.Recovery.{recover_error, recovered_state, is_finalization_entry, with_floor}
use Rattle.simplex_member.specs.Restarts.{RestartFacts, IsByView, cut_member, new_lifetime, retention_grows, RecoversByView, IsRestart, IsRestartWhere}
use Rattle.simplex_member.specs.Runs.{StepFacts, Calls, Prunes, Restarts, restart_reply, IsRun, EndsRun, EndsRunFrom}
use Rattle.simplex_record.specs.Start.{StartFacts, new_state}
use Rattle.simplex_record.proofs.Cuts.{none_dropped}
use Rattle.laws_safety.specs.Traces.{TraceEvent, of_floor, trace_of_call, trace_at, trace_of_steps}
use Rattle.laws_safety.specs.TermLengths.{HasTerms, KeepTerms}
use Rattle.laws_safety.proofs.own_records.BrokenParents.{parent_accepted}
use Rattle.laws_safety.proofs.records.CutsRemembered.{copy_remembers}
use Rattle.laws_safety.proofs.own_records.HighViews.{HasHighVote, view_voted}
use Rattle.laws_safety.proofs.own_records.Outside.{Fit, error_outside}
use Rattle.laws_safety.proofs.own_records.Recorded.{OwnRecord, own_together, own_nothing, HasNoVerdict, own_floor, own_left, own_bounded, own_copy}
use Rattle.laws_safety.proofs.own_records.RecoveredVerdicts.{recovered_shows}
use Rattle.laws_safety.proofs.records.RunsLawful.{MemberLives, between_of, cut_between, call_lives_on, prune_lives_on, restart_lives_on, start_lives}
use Rattle.laws_safety.proofs.records.PrunedRecords.{shown_tracked, tracked_stays}
use Rattle.laws_safety.proofs.lists.Filters.{Contains-filtered, same_entries}
use Rattle.simplex_member.specs.PrunedRecord.{stays_within, pruned_member}
use Rattle.laws_safety.proofs.own_records.VerdictsByCalls.{call_replied}
use Rattle.laws_safety.proofs.own_records.ShownVerdicts.{TellsVerdicts, shows_more}
use Rattle.laws_safety.proofs.own_records.SmallViews.{AreSmall}
use Rattle.laws_safety.proofs.own_records.Verdicts.{ShowsVerdicts}
use Rattle.laws_safety.proofs.own_records.EntriesFit.{record_fits}
use Rattle.laws_safety.proofs.lists.Splits.{only_one}

-- a member's record keeps its verdicts in order, and while it has not failed its state shows them
abbrev pub TellsOn : {K L D : Type 0} → List (TraceEvent D) → List (ArtifactFacts D) → Option (StateFacts K L D)
    → Type 0
TellsOn trace entries None = OwnRecord trace entries
TellsOn trace entries (Some x) = TellsVerdicts trace entries x

abbrev pub MemberTells : {K L D : Type 0} → List (TraceEvent D) → MemberFacts K L D → Type 0
MemberTells trace m = TellsOn trace m.entries m.life

module _ {D : Type 0} where
  -- a drop keeps the first entries
  pub left_first : (closed n : ℕ) (entries : List (ArtifactFacts D))
      → (tail : List (ArtifactFacts D)) × (entries ≡ without_last closed n entries ++ tail)
  left_first closed zero entries = ([], sym (append-nil entries))
  left_first closed (suc n) entries = elim (cases_Bool (may_drop closed entries)) [
    | inr stays ↦ rw (none_dropped closed (suc n) entries stays) ([], sym (append-nil entries))
    | inl falls ↦
        (let shorter = take (length entries - 1) entries in
        let last = drop (length entries - 1) entries in
        let rest = left_first closed n shorter in
        let joined : entries ≡ without_last closed n shorter ++ (rest.0 ++ last) =
        sym (take-append-drop (length entries - 1) entries)
        ∙ (ap (λ es. es ++ last) rest.1 ∙ append_assoc (without_last closed n shorter) rest.0 last) in
        let fewer : without_last closed n shorter ≡ without_last closed (suc n) entries = rw falls refl in
        subst (λ left. (tail : List (ArtifactFacts D)) × (entries ≡ left ++ tail)) fewer (rest.0 ++ last, joined))
  ]

  pruned_own : (trace : List (TraceEvent D)) (entries : List (ArtifactFacts D)) (retention : ℕ)
      → OwnRecord trace entries → OwnRecord trace (pruned_entries retention entries)
  unfolding pruned_entries
  pruned_own trace entries retention own = own_bounded trace entries own (nat_le (finalized_in entries - retention))

  -- the floor adds no verdict
  floor_adds : (entries : List (ArtifactFacts D)) (floor : FloorFacts D)
      → (more : List (ArtifactFacts D)) × (with_floor entries floor ≡ entries ++ more) × HasNoVerdict more
  floor_adds entries (Genesis payload) = ([], sym (append-nil entries), λ round success h. absurd (omega (arith, h.1)))
  floor_adds entries (FinalizedFloor c) = by_record (stands c.proposal.round.view is_finalization_entry entries) refl
    where
      by_record : (b : Bool) → stands c.proposal.round.view is_finalization_entry entries ≡ b
          → (more : List (ArtifactFacts D)) × (with_floor entries (FinalizedFloor c) ≡ entries ++ more)
          × HasNoVerdict more
      by_record true is = rw is ([], sym (append-nil entries), λ round success h. absurd (omega (arith, h.1)))
      by_record false is = rw is (
        Accepted (Finalized c) ∷ [],
        refl,
        λ round success h. (let e = only_one (Accepted (Finalized c)) (Verdict round success) h in cc),
      )

module _ {K L D : Type 0} (entries : List (ArtifactFacts D)) (x : StateFacts K L D) (bound : ℕ) where
  abbrev test : ArtifactFacts D → Bool
  test e = is_tracked x (entry_view e) || nat_le bound (entry_view e)

  shows_still : ShowsVerdicts entries x → ShowsVerdicts (filter test entries) x
  shows_still shows = record {
    notarized = λ v is.
        (let c = shows.notarized v is in
        let tracked = shown_tracked x v (λ r. is_some r.notarization) refl is in (
          c.0,
          tracked_stays entries x bound (Accepted (Notarized c.0)) c.1
              (subst (λ u. is_tracked x u ≡ true) (sym c.2) tracked),
          c.2,
        ));
    judged = λ round success h known. shows.judged round success
        (Contains-filtered test entries (Verdict round success) h) known;
  }

module _ {K L D : Type 0} where
  own_of : (trace : List (TraceEvent D)) (entries : List (ArtifactFacts D)) (life : Option (StateFacts K L D))
      → TellsOn trace entries life → OwnRecord trace entries
  own_of trace entries None own = own
  own_of trace entries (Some x) tells = tells.own

  unreplied : (trace : List (TraceEvent D)) (m : MemberFacts K L D) → MemberTells trace m → MemberTells (trace ++ []) m
  unreplied trace m tells = subst (λ a. MemberTells a m) (sym (append-nil trace)) tells

  cut_own : (trace : List (TraceEvent D)) (m : MemberFacts K L D) (n : ℕ) (prune : Bool) → OwnRecord trace m.entries
      → OwnRecord trace (cut_member m n prune).entries
  cut_own trace m n false own = let left = left_first m.closed n m.entries in
      own_left trace m.entries own (without_last m.closed n m.entries) left.0 left.1
  cut_own trace m n true own =
      let left = left_first m.closed n m.entries in
      pruned_own trace (without_last m.closed n m.entries) m.retention
      (own_left trace m.entries own (without_last m.closed n m.entries) left.0 left.1)

  -- a pruning within the lifetime: what the state tracks, and so shows, stays in the record
  prune_tells_on : (trace : List (TraceEvent D)) (m : MemberFacts K L D) → MemberTells trace m
      → MemberTells (trace ++ []) (pruned_member m)
  prune_tells_on trace m tells = unreplied trace (pruned_member m) (by_life m.life refl tells)
    where
      by_life : (o : Option (StateFacts K L D)) → m.life ≡ o → TellsOn trace m.entries o
          → TellsOn trace (pruned_member m).entries o
      by_life None dead own = own_bounded trace m.entries own (stays_within m)
      by_life (Some x) alive replied = record {
        own = own_bounded trace m.entries replied.own (stays_within m);
        shows = rw alive (shows_still m.entries x (finalized_in m.entries - m.retention) replied.shows);
      }

  -- the same entries, and the floor's finalization besides
  shows_whole : (entries copy : List (ArtifactFacts D)) (floor : FloorFacts D) (x : StateFacts K L D)
      → ((v : ℕ) → filter (λ e. entry_view e == v) copy ≡ filter (λ e. entry_view e == v) entries)
      → ShowsVerdicts copy x → ShowsVerdicts (with_floor entries floor) x
  shows_whole entries copy floor x by_view shows =
      let into = same_entries copy entries by_view in
      let back = same_entries entries copy (λ v. sym (by_view v)) in
      let more = floor_adds entries floor in
      let here : ShowsVerdicts entries x = record {
        notarized = λ v is. (let c = shows.notarized v is in (c.0, into (Accepted (Notarized c.0)) c.1, c.2));
        judged = λ round success h known. shows.judged round success (back (Verdict round success) h) known;
      } in
      subst (λ es. ShowsVerdicts es x) (sym more.1) (shows_more entries more.0 x more.2 here)

module _ {K L D : Type 0} (same : D → D → Bool) (elect : Elect L) (term_length : ℕ) (trace : List (TraceEvent D))
    (m : MemberFacts K L D) where
  -- a call

  answered : (call : CallFacts D) (x : StateFacts K L D) → m.life ≡ Some x → MemberTells trace m
      → MemberTells (trace ++ trace_of_call call (reply_of same elect x m.outstanding_work call))
      (left_of same elect x m call)
  answered call x alive tells = by_allowed (is_allowed x m.outstanding_work call) refl
    where
      by_fault : (o : Option Fault) → fault_of x call ≡ o → is_allowed x m.outstanding_work call ≡ true
          → MemberTells (trace ++ trace_of_call call (reply_of same elect x m.outstanding_work call))
          (left_of same elect x m call)
      by_fault None no_fault allowed = rw (allowed, no_fault)
          (call_replied same elect trace m.entries x m.outstanding_work
          (subst (λ life. TellsOn trace m.entries life) alive tells) call allowed)
      by_fault (Some f) refused allowed = rw (allowed, refused) (unreplied trace m tells)

      by_allowed : (b : Bool) → is_allowed x m.outstanding_work call ≡ b
          → MemberTells (trace ++ trace_of_call call (reply_of same elect x m.outstanding_work call))
          (left_of same elect x m call)
      by_allowed true allowed = by_fault (fault_of x call) refl allowed
      by_allowed false not_allowed = rw not_allowed (unreplied trace m tells)

  call_tells_on : (call : CallFacts D) (replied : ReplyFacts K D) (left : MemberFacts K L D) → MemberTells trace m
      → IsCall same elect m call replied left → MemberTells (trace ++ trace_of_call call replied) left
  unfolding IsCall
  call_tells_on call replied left tells is_call = by_life m.life refl is_call
    where
      by_life : (o : Option (StateFacts K L D)) → m.life ≡ o → AnswersAlive same elect o m call replied left
          → MemberTells (trace ++ trace_of_call call replied) left
      by_life None dead (tell, leaves) = rw (tell, leaves) (unreplied trace m tells)
      by_life (Some x) alive (inl (tell, leaves)) = rw (tell, leaves) (answered call x alive tells)
      by_life (Some x) alive (inr (_, tell, inl (_, leaves))) = rw (tell, leaves) (unreplied trace m tells)
      by_life (Some x) alive (inr (_, tell, inr (_, _, leaves))) =
          rw (tell, leaves) (unreplied trace (without_lifetime m) (own_of trace m.entries m.life tells))

  -- a restart

  from_copy : (n : MemberFacts K L D) (start : StartFacts K L D) (copy : List (ArtifactFacts D))
      → OwnRecord trace n.entries → IsByView n.entries copy
      → MemberTells (trace ++ of_floor start.floor) (new_lifetime same elect n start copy)
  from_copy n start copy own by_view =
      let x = new_state start.setup in
      let in_copy = own_copy trace n.entries own copy by_view.of_each_view in
      let shows = recovered_shows same elect x.settings x.me x.members x.elector x.terms x.elects_early copy start.floor
      start.now by_view.rising in_copy.one_verdict in
      record {
        own = own_floor trace n.entries own (of_floor start.floor) start.floor;
        shows = shows_whole n.entries copy start.floor (recovered_state same elect x start.floor start.now copy)
            by_view.of_each_view shows;
      }

  continues : (n : MemberFacts K L D) (r : RestartFacts K L D) (result : Result (Unit {0}) RecoverError)
      (left : MemberFacts K L D) → OwnRecord trace n.entries → RecoversByView same elect n r.start result left
      → MemberTells (trace ++ trace_at (Restarts r) (restart_reply {K = K} {D = D} result)) left
  continues n r result left own (inl (is, leaves)) = rw (is, leaves) (unreplied trace (without_lifetime n) own)
  continues n r result left own (inr (copy, by_view, goes)) =
      by_error (recover_error same (new_state r.start.setup) r.start.floor r.start.now copy) goes
    where
      by_error : (o : Option RecoverError) → MatchOption o
          ((result ≡ Ok tt) × (left ≡ new_lifetime same elect n r.start copy))
          (λ e. (result ≡ Err e) × (left ≡ without_lifetime n))
          → MemberTells (trace ++ trace_at (Restarts r) (restart_reply {K = K} {D = D} result)) left
      by_error None (is, leaves) =
          rw (is, leaves)
          (subst (λ more. MemberTells (trace ++ more) (new_lifetime same elect n r.start copy))
          (sym (append-nil (of_floor r.start.floor))) (from_copy n r.start copy own by_view))
      by_error (Some e) (is, leaves) = rw (is, leaves) (unreplied trace (without_lifetime n) own)

  restart_tells_on : (r : RestartFacts K L D) (result : Result (Unit {0}) RecoverError) (left : MemberFacts K L D)
      → MemberTells trace m → IsRestart same elect m r result left
      → MemberTells (trace ++ trace_at (Restarts r) (restart_reply {K = K} {D = D} result)) left
  unfolding IsRestart
  restart_tells_on r result left tells restarts =
      by_test (retention_grows m r.prune r.start.setup.settings.view_retention) restarts
    where
      by_test : (b : Bool) → IsRestartWhere same elect b m r result left
          → MemberTells (trace ++ trace_at (Restarts r) (restart_reply {K = K} {D = D} result)) left
      by_test true (is, leaves) = rw (is, leaves) (unreplied trace m tells)
      by_test false goes = continues (cut_member m r.drop r.prune) r result left
          (cut_own trace m r.drop r.prune (own_of trace m.entries m.life tells)) goes

-- the error of a refusal
abbrev error_in : Result (Unit {0}) RecoverError → RecoverError
error_in (Ok _) = error.OutOfMemory
error_in (Err found) = found

-- the invariant of a member at each moment of a run
pub record LivesAndTells {K L D : Type 0} (term_length : ℕ) (trace : List (TraceEvent D)) (m : MemberFacts K L D) : Type
    0 where
  pub lives : MemberLives term_length trace m
  pub tells : MemberTells trace m

module _ {K L D : Type 0} (same : D → D → Bool) (decides : (d e : D) → same d e ≡ true → d ≡ e)
    (itself : (d : D) → same d d ≡ true) (elect : Elect L) (term_length : ℕ) (some : 0 < term_length) where
  pub called : (trace : List (TraceEvent D)) (m next : MemberFacts K L D) (call : CallFacts D)
      (replied : ReplyFacts K D)
      → LivesAndTells term_length trace m → IsCall same elect m call replied next
      → LivesAndTells term_length (trace ++ trace_of_call call replied) next
  called trace m next call replied own is = record {
    lives = call_lives_on same decides elect term_length some trace m call replied next own.lives is;
    tells = call_tells_on same elect term_length trace m call replied next own.tells is;
  }

  pub restarted : (trace : List (TraceEvent D)) (m next : MemberFacts K L D) (r : RestartFacts K L D)
      (replied : ReplyFacts K D) → HasTerms term_length r.start.setup → LivesAndTells term_length trace m
      → (result : Result (Unit {0}) RecoverError) × IsRestart same elect m r result next
      × (replied ≡ restart_reply result)
      → LivesAndTells term_length (trace ++ trace_at (Restarts r) replied) next
  restarted trace m next r replied fresh own (result, is, tell) = rw tell (record {
    lives = restart_lives_on same decides elect term_length some trace m r result next fresh own.lives is;
    tells = restart_tells_on same elect term_length trace m r result next own.tells is;
  })

  pub pruned : (trace : List (TraceEvent D)) (m : MemberFacts K L D) → LivesAndTells term_length trace m
      → LivesAndTells term_length (trace ++ []) (pruned_member m)
  pruned trace m own =
      record { lives = prune_lives_on term_length trace m own.lives; tells = prune_tells_on trace m own.tells }

  -- so it does where the run ends
  pub run_own : (steps : List (StepFacts K L D)) (replies : List (ReplyFacts K D)) (trace : List (TraceEvent D))
      (m end : MemberFacts K L D) → KeepTerms term_length steps → LivesAndTells term_length trace m
      → IsRun same elect m steps replies end → LivesAndTells term_length (trace ++ trace_of_steps steps replies) end
  run_own [] [] trace m end fresh own run =
      subst (λ all. LivesAndTells term_length all end) (sym (append-nil trace))
      (subst (λ n. LivesAndTells term_length trace n) run own)
  run_own [] (replied ∷ replies) trace m end fresh own run = absurd run
  run_own (step ∷ steps) [] trace m end fresh own run = absurd run
  run_own (Calls call ∷ steps) (replied ∷ replies) trace m end fresh own (next, is_step, rest) =
      subst (λ all. LivesAndTells term_length all end)
      (append_assoc trace (trace_at {L = L} (Calls call) replied) (trace_of_steps steps replies))
      (run_own steps replies (trace ++ trace_of_call call replied) next end fresh
      (called trace m next call replied own is_step) rest)
  run_own (Prunes ∷ steps) (replied ∷ replies) trace m end fresh own (next, (tells, leaves), rest) =
      rw tells (subst (λ all. LivesAndTells term_length all end) (append_assoc trace [] (trace_of_steps steps replies))
      (run_own steps replies (trace ++ []) next end fresh (rw leaves (pruned trace m own)) rest))
  run_own (Restarts r ∷ steps) (replied ∷ replies) trace m end fresh own (next, is_step, rest) =
      subst (λ all. LivesAndTells term_length all end)
      (append_assoc trace (trace_at (Restarts r) replied) (trace_of_steps steps replies))
      (run_own steps replies (trace ++ trace_at (Restarts r) replied) next end fresh.1
      (restarted trace m next r replied fresh.0 own is_step) rest)

  -- a copy of the record after any cut breaks no rule on the order of entries
  copy_fits : (trace : List (TraceEvent D)) (m : MemberFacts K L D) (n : ℕ) (prune : Bool)
      (copy : List (ArtifactFacts D)) → LivesAndTells term_length trace m → IsByView (cut_member m n prune).entries copy
      → Fit same [] copy
  copy_fits trace m n prune copy own by_view =
      let left = (cut_member m n prune).entries in
      let between = cut_between term_length trace m n own.lives.0 prune
      (between_of term_length trace m.closed own.lives.0 m.entries m.outstanding_work m.life own.lives.1) in
      let remembers = copy_remembers trace between.0 left between.1.remembers copy by_view.of_each_view in
      let in_copy = own_copy trace left (cut_own trace m n prune (own_of trace m.entries m.life own.tells)) copy
      by_view.of_each_view in
      record_fits same itself copy (own_together term_length trace between.0 copy between.1.lawful remembers in_copy)
      by_view.rising

  copy_outside : (trace : List (TraceEvent D)) (m : MemberFacts K L D) (r : RestartFacts K L D)
      (copy : List (ArtifactFacts D)) (found : RecoverError) → LivesAndTells term_length trace m
      → IsByView (cut_member m r.drop r.prune).entries copy
      → recover_error same (new_state r.start.setup) r.start.floor r.start.now copy ≡ Some found → IsFromOutside found
  copy_outside trace m r copy found own by_view is =
      error_outside same (new_state r.start.setup) r.start.floor r.start.now copy found
      (copy_fits trace m r.drop r.prune copy own by_view) is

  copy_parent : (trace : List (TraceEvent D)) (m : MemberFacts K L D) (r : RestartFacts K L D)
      (copy : List (ArtifactFacts D)) → LivesAndTells term_length trace m
      → IsByView (cut_member m r.drop r.prune).entries copy
      → recover_error same (new_state r.start.setup) r.start.floor r.start.now copy ≡ Some error.ParentNotBelow
      → AcceptedParentAbove trace
  copy_parent trace m r copy own by_view is =
      let left = (cut_member m r.drop r.prune).entries in
      let between = cut_between term_length trace m r.drop own.lives.0 r.prune
      (between_of term_length trace m.closed own.lives.0 m.entries m.outstanding_work m.life own.lives.1) in
      let remembers = copy_remembers trace between.0 left between.1.remembers copy by_view.of_each_view in
      let in_copy = own_copy trace left (cut_own trace m r.drop r.prune (own_of trace m.entries m.life own.tells)) copy
      by_view.of_each_view in
      parent_accepted same term_length trace between.1.lawful (new_state r.start.setup) r.start.floor r.start.now copy
      in_copy.notarize_cast remembers.finalize_cast is

  pub copy_high : (trace : List (TraceEvent D)) (m : MemberFacts K L D) (r : RestartFacts K L D)
      (copy : List (ArtifactFacts D)) → AreSmall trace → LivesAndTells term_length trace m
      → IsByView (cut_member m r.drop r.prune).entries copy
      → recover_error same (new_state r.start.setup) r.start.floor r.start.now copy ≡ Some error.ViewTooLarge
      → (is_floor_too_large r.start.floor ≡ true) ⊎ HasHighVote trace
  copy_high trace m r copy small own by_view is =
      let left = (cut_member m r.drop r.prune).entries in
      let between = cut_between term_length trace m r.drop own.lives.0 r.prune
      (between_of term_length trace m.closed own.lives.0 m.entries m.outstanding_work m.life own.lives.1) in
      let remembers = copy_remembers trace between.0 left between.1.remembers copy by_view.of_each_view in
      let in_copy = own_copy trace left (cut_own trace m r.drop r.prune (own_of trace m.entries m.life own.tells)) copy
      by_view.of_each_view in
      view_voted term_length trace between.1.lawful small between.0 copy remembers in_copy same
      (new_state r.start.setup) r.start.floor r.start.now is

  restart_excused : (trace : List (TraceEvent D)) (m left : MemberFacts K L D) (r : RestartFacts K L D)
      (result : Result (Unit {0}) RecoverError) (found : RecoverError) → result ≡ Err found
      → LivesAndTells term_length trace m → IsRestart same elect m r result left → IsExcused found
  unfolding IsRestart
  restart_excused trace m left r result found refused own restarts =
      by_test (retention_grows m r.prune r.start.setup.settings.view_retention) restarts
    where
      by_error : (copy : List (ArtifactFacts D)) → IsByView (cut_member m r.drop r.prune).entries copy
          → (o : Option RecoverError) → recover_error same (new_state r.start.setup) r.start.floor r.start.now copy ≡ o
          → MatchOption o ((result ≡ Ok tt) × (left ≡ new_lifetime same elect (cut_member m r.drop r.prune) r.start
          copy)) (λ e. (result ≡ Err e) × (left ≡ without_lifetime (cut_member m r.drop r.prune))) → IsExcused found
      by_error copy by_view None none (is, leaves) = absurd (cc)
      by_error copy by_view (Some e) due (is, leaves) =
          inl
          (copy_outside trace m r copy found own by_view (due ∙ ap Some (sym (ap error_in is) ∙ ap error_in refused)))

      by_test : (b : Bool) → IsRestartWhere same elect b m r result left → IsExcused found
      by_test true (is, leaves) = inr (inl (sym (ap error_in refused) ∙ ap error_in is))
      by_test false (inl (is, leaves)) = inr (inr (sym (ap error_in refused) ∙ ap error_in is))
      by_test false (inr (copy, by_view, goes)) =
          by_error copy by_view (recover_error same (new_state r.start.setup) r.start.floor r.start.now copy) refl goes

  run_excused : (steps : List (StepFacts K L D)) (trace : List (TraceEvent D)) (m : MemberFacts K L D)
      (found : RecoverError) → KeepTerms term_length steps → LivesAndTells term_length trace m
      → EndsRun same elect m steps found → IsExcused found
  run_excused [] trace m found fresh own ends = absurd ends
  run_excused (Calls call ∷ steps) trace m found fresh own (inl refused) = absurd refused
  run_excused (Calls call ∷ steps) trace m found fresh own (inr (replied, next, is_step, served, later)) =
      run_excused steps (trace ++ trace_of_call call replied) next found fresh
      (called trace m next call replied own is_step)
      later
  run_excused (Prunes ∷ steps) trace m found fresh own (inl refused) = absurd refused
  run_excused (Prunes ∷ steps) trace m found fresh own (inr (replied, next, is_step, served, later)) =
      run_excused steps (trace ++ []) next found fresh (rw is_step.1 (pruned trace m own)) later
  run_excused (Restarts r ∷ steps) trace m found fresh own (inl (left, refused)) =
      restart_excused trace m left r (Err found) found refl own refused
  run_excused (Restarts r ∷ steps) trace m found fresh own (inr (replied, next, is_step, served, later)) =
      run_excused steps (trace ++ trace_at (Restarts r) replied) next found fresh.1
      (restarted trace m next r replied fresh.0 own is_step) later

module _ {K L D : Type 0} (same : D → D → Bool) (decides : (d e : D) → same d e ≡ true → d ≡ e)
    (itself : (d : D) → same d d ≡ true) (elect : Elect L) (term_length : ℕ) (start : StartFacts K L D)
    (begins : HasTerms term_length start.setup) where
  start_tells : MemberTells (of_floor start.floor) (new_member same elect start)
  unfolding recovered_state
  start_tells =
      let x = new_state start.setup in
      let none : List (ArtifactFacts D) = [] in
      let shows = recovered_shows same elect x.settings x.me x.members x.elector x.terms x.elects_early none start.floor
      start.now (λ i j d low within. absurd (omega arith))
      (λ round other success given h. absurd (omega (arith, h.1))) in
      record {
        own = own_floor [] [] own_nothing (of_floor start.floor) start.floor;
        shows = shows_whole none none start.floor (recovered_state same elect x start.floor start.now none) (λ v. refl)
            shows;
      }

  pub start_own : LivesAndTells term_length (of_floor start.floor) (new_member same elect start)
  start_own = record { lives = start_lives same decides elect term_length start begins; tells = start_tells }

  module _ (steps : List (StepFacts K L D)) (fresh : KeepTerms term_length steps) where
    -- a copy of a member's own record is refused only for what comes from outside
    pub own_record_outside : (replies : List (ReplyFacts K D)) (end : MemberFacts K L D) (next : RestartFacts K L D)
        (copy : List (ArtifactFacts D)) (found : RecoverError)
        → IsRun same elect (new_member same elect start) steps replies end
        → IsByView (cut_member end next.drop next.prune).entries copy
        → recover_error same (new_state next.start.setup) next.start.floor next.start.now copy ≡ Some found
        → IsFromOutside found
    own_record_outside replies end next copy found run by_view is =
        let own = run_own same decides itself elect term_length begins.some steps replies (of_floor start.floor)
        (new_member same elect start) end fresh start_own run in
        copy_outside same decides itself elect term_length begins.some
        (of_floor start.floor ++ trace_of_steps steps replies) end next copy found own by_view is

    -- for a parent, only where such a notarization was accepted
    pub own_parent_accepted : (replies : List (ReplyFacts K D)) (end : MemberFacts K L D) (next : RestartFacts K L D)
        (copy : List (ArtifactFacts D)) → IsRun same elect (new_member same elect start) steps replies end
        → IsByView (cut_member end next.drop next.prune).entries copy
        → recover_error same (new_state next.start.setup) next.start.floor next.start.now copy ≡ Some
        error.ParentNotBelow → AcceptedParentAbove (of_floor start.floor ++ trace_of_steps steps replies)
    own_parent_accepted replies end next copy run by_view is =
        let own = run_own same decides itself elect term_length begins.some steps replies (of_floor start.floor)
        (new_member same elect start) end fresh start_own run in
        copy_parent same decides itself elect term_length begins.some
        (of_floor start.floor ++ trace_of_steps steps replies) end next copy own by_view is

    -- before its verdicts there are notarizations, in its own order
    pub own_verdicts_follow : (replies : List (ReplyFacts K D)) (end : MemberFacts K L D)
        → IsRun same elect (new_member same elect start) steps replies end → VerdictsFollowNotarizations end
    own_verdicts_follow replies end run =
        let own = run_own same decides itself elect term_length begins.some steps replies (of_floor start.floor)
        (new_member same elect start) end fresh start_own run in
        (own_of (of_floor start.floor ++ trace_of_steps steps replies) end.entries end.life own.tells).notarized

    -- the same for a restart, except for its retention and out of memory
    pub own_restart_excused : (replies : List (ReplyFacts K D)) (end left : MemberFacts K L D)
        (next : RestartFacts K L D) (found : RecoverError)
        → IsRun same elect (new_member same elect start) steps replies end
        → IsRestart same elect end next (Err found) left → IsExcused found
    own_restart_excused replies end left next found run restarts =
        let own = run_own same decides itself elect term_length begins.some steps replies (of_floor start.floor)
        (new_member same elect start) end fresh start_own run in
        restart_excused same decides itself elect term_length begins.some
        (of_floor start.floor ++ trace_of_steps steps replies) end left next (Err found) found refl own restarts

    -- and a run
    pub own_run_excused : (found : RecoverError) → EndsRunFrom same elect start steps found → IsExcused found
    unfolding EndsRunFrom
    own_run_excused found (inl memory) = inr (inr memory)
    own_run_excused found (inr (inl refused)) =
        inl (error_outside same (new_state start.setup) start.floor start.now [] found tt refused)
    own_run_excused found (inr (inr ends)) =
        run_excused same decides itself elect term_length begins.some steps (of_floor start.floor)
        (new_member same elect start) found fresh start_own ends
