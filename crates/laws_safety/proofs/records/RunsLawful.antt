-- For `votes_are_lawful`.
-- The trace of a run is lawful, over all its lifetimes.
use Rattle.std.proofs.Common.{◌≡◌, refl, sym, subst, ℕ, ◌<◌, inl, inr, Bool, true, false, List, [], ◌∷◌, ◌++◌, append_assoc, Contains, Option, Some, None, Result, Ok, Err, ◌-◌, max, arith}
use Rattle.std.specs.Prelude.{MatchOption}
use Rattle.std.proofs.lemmas.List.{append-nil}
use Rattle.simplex_types.specs.Certificates.{ArtifactFacts, FinalizeVote}
use Rattle.simplex_types.specs.Config.{FloorFacts}
use Rattle.simplex_types.specs.declared.types.fault.Fault.{Fault}
use Rattle.simplex_types.specs.declared.types.messages.Subject.TheVariants as subject
use Rattle.simplex_voter.specs.Facts.{StateFacts, Elect}
use Rattle.simplex_record.specs.declared.record.error.RecoverError.{RecoverError}
use Rattle.simplex_member.specs.CallConditions.{is_allowed, fault_of}
use Rattle.simplex_member.specs.Calls.{CallFacts, ReplyFacts}
use Rattle.simplex_record.specs.Check.{first_recover_error, first_broken_after, first_error, recovery_floor_rules}
use Rattle.simplex_record.specs.Cuts.{without_last, finalized_in}
use Rattle.simplex_member.specs.OutstandingWork.{OutstandingWork, no_outstanding_work}
use Rattle.simplex_member.specs.MemberFacts.{MemberFacts, IsCall, AnswersAlive, reply_of, left_of, without_lifetime}
use Rattle.simplex_record.specs.Recovery.{recover_error, recovered_state, with_floor}
use Rattle.simplex_member.specs.Restarts.{RestartFacts, IsByView, cut_member, new_lifetime, retention_grows, RecoversByView, IsRestart, IsRestartWhere}
use Rattle.laws_safety.specs.Traces.{TraceEvent, of_floor, trace_of_call, trace_at, trace_of_steps}
use Rattle.laws_safety.specs.Lawful.{IsLawful}
use Rattle.laws_safety.specs.Executions.{new_member, Execution, trace_of, BeginsAs, IsExecution}
use Rattle.laws_safety.proofs.lists.Signed.{signed_none}
use Rattle.laws_safety.proofs.lists.Splits.{Contains-cons_rest}
use Rattle.laws_safety.specs.TermLengths.{HasTerms, KeepTerms}
use Rattle.simplex_member.specs.Runs.{StepFacts, Calls, Prunes, Restarts, restart_reply, IsStep, IsRun, IsRunFrom}
use Rattle.simplex_record.specs.Start.{StartFacts, new_state}
use Rattle.laws_safety.proofs.agreement.Lawful.{lawful_start}
use Rattle.laws_safety.proofs.records.RememberedVotes.{none_split}
use Rattle.laws_safety.proofs.records.Lifetimes.{Between, dropped_between, pruned_between}
use Rattle.laws_safety.proofs.records.NewLives.{Living, living_between, all_of_epoch, first_none, new_life_lives}
use Rattle.laws_safety.proofs.records.NotarizeVotesRemembered.{nothing_noted}
use Rattle.laws_safety.proofs.records.CallsKeepRules.{call_lives}
use Rattle.laws_safety.proofs.records.PrunedRecords.{pruned_ended, pruned_living}
use Rattle.simplex_member.specs.PrunedRecord.{pruned_member}

-- a member's record remembers its trace, and while it has not failed its state shows it
abbrev pub LivesOn : {K L D : Type 0} → ℕ → List (TraceEvent D) → ℕ → ℕ → List (ArtifactFacts D) → OutstandingWork K D
    → Option (StateFacts K L D) → Type 0
LivesOn term_length trace closed kept entries o None = Between term_length trace closed kept entries
LivesOn term_length trace closed kept entries o (Some x) = Living term_length trace closed kept entries o x

abbrev pub MemberLives : {K L D : Type 0} → ℕ → List (TraceEvent D) → MemberFacts K L D → Type 0
MemberLives term_length trace m = (kept : ℕ)
    × LivesOn term_length trace m.closed kept m.entries m.outstanding_work m.life

-- a record that is due no error breaks no rule
unbroken : {D : Type 0} (same : D → D → Bool) (epoch : ℕ) (me : Option ℕ) (floor : FloorFacts D)
    (entries : List (ArtifactFacts D)) → first_recover_error same epoch me floor entries ≡ None
    → first_broken_after same epoch me [] entries ≡ None
unfolding first_recover_error
unbroken same epoch me floor entries none =
    (first_none (first_error (recovery_floor_rules epoch floor)) (first_broken_after same epoch me [] entries) none).1

module _ {K L D : Type 0} where
  pub between_of : (term_length : ℕ) (trace : List (TraceEvent D)) (closed kept : ℕ) (entries : List (ArtifactFacts D))
      (o : OutstandingWork K D) (life : Option (StateFacts K L D))
      → LivesOn term_length trace closed kept entries o life → Between term_length trace closed kept entries
  between_of term_length trace closed kept entries o None lives = lives
  between_of term_length trace closed kept entries o (Some x) lives =
      living_between term_length trace closed kept entries o x lives

  quiet : (term_length : ℕ) (trace : List (TraceEvent D)) (m : MemberFacts K L D) → MemberLives term_length trace m
      → MemberLives term_length (trace ++ []) m
  quiet term_length trace m lives = subst (λ a. MemberLives term_length a m) (sym (append-nil trace)) lives

  -- the record after a restart's cut
  pub cut_between : (term_length : ℕ) (trace : List (TraceEvent D)) (m : MemberFacts K L D) (drop kept : ℕ)
      (prune : Bool) → Between term_length trace m.closed kept m.entries
      → (k : ℕ) × Between term_length trace (cut_member m drop prune).closed k (cut_member m drop prune).entries
  cut_between term_length trace m drop kept false between =
      (kept, dropped_between term_length trace m.closed kept m.entries between drop)
  cut_between term_length trace m drop kept true between =
      let left = dropped_between term_length trace m.closed kept m.entries between drop in
      (_, pruned_between term_length trace m.closed kept (without_last m.closed drop m.entries) left m.retention)

  -- a pruning within the lifetime
  pub prune_lives_on : (term_length : ℕ) (trace : List (TraceEvent D)) (m : MemberFacts K L D)
      → MemberLives term_length trace m → MemberLives term_length (trace ++ []) (pruned_member m)
  prune_lives_on term_length trace m lives = quiet term_length trace (pruned_member m) (_, by_life m.life refl lives.1)
    where
      by_life : (o : Option (StateFacts K L D)) → m.life ≡ o
          → LivesOn term_length trace m.closed lives.0 m.entries m.outstanding_work o
          → LivesOn term_length trace (pruned_member m).closed (max lives.0 (finalized_in m.entries - m.retention))
          (pruned_member m).entries m.outstanding_work o
      by_life None dead between = pruned_ended term_length trace m lives.0 between
      by_life (Some x) alive living = pruned_living term_length trace m lives.0 x alive living

module _ {K L D : Type 0} (same : D → D → Bool) (decides : (d e : D) → same d e ≡ true → d ≡ e) (elect : Elect L)
    (term_length : ℕ) (some : 0 < term_length) (trace : List (TraceEvent D)) (m : MemberFacts K L D) where
  -- a call

  answered : (call : CallFacts D) (x : StateFacts K L D) → m.life ≡ Some x → MemberLives term_length trace m
      → MemberLives term_length (trace ++ trace_of_call call (reply_of same elect x m.outstanding_work call))
      (left_of same elect x m call)
  answered call x alive lives = by_allowed (is_allowed x m.outstanding_work call) refl
    where
      by_fault : (o : Option Fault) → fault_of x call ≡ o → is_allowed x m.outstanding_work call ≡ true
          → MemberLives term_length (trace ++ trace_of_call call (reply_of same elect x m.outstanding_work call))
          (left_of same elect x m call)
      by_fault None no_fault allowed = rw (allowed, no_fault) (
        lives.0,
        call_lives same decides elect term_length some trace m.closed lives.0 m.entries m.outstanding_work x
            (subst (λ life. LivesOn term_length trace m.closed lives.0 m.entries m.outstanding_work life) alive lives.1)
            call allowed,
      )
      by_fault (Some f) refused allowed = rw (allowed, refused) (quiet term_length trace m lives)

      by_allowed : (b : Bool) → is_allowed x m.outstanding_work call ≡ b
          → MemberLives term_length (trace ++ trace_of_call call (reply_of same elect x m.outstanding_work call))
          (left_of same elect x m call)
      by_allowed true allowed = by_fault (fault_of x call) refl allowed
      by_allowed false not_allowed = rw not_allowed (quiet term_length trace m lives)

  pub call_lives_on : (call : CallFacts D) (replied : ReplyFacts K D) (left : MemberFacts K L D)
      → MemberLives term_length trace m → IsCall same elect m call replied left
      → MemberLives term_length (trace ++ trace_of_call call replied) left
  unfolding IsCall
  call_lives_on call replied left lives is_call = by_life m.life refl is_call
    where
      by_life : (o : Option (StateFacts K L D)) → m.life ≡ o → AnswersAlive same elect o m call replied left
          → MemberLives term_length (trace ++ trace_of_call call replied) left
      by_life None dead (tells, leaves) = rw (tells, leaves) (quiet term_length trace m lives)
      by_life (Some x) alive (inl (tells, leaves)) = rw (tells, leaves) (answered call x alive lives)
      by_life (Some x) alive (inr (_, tells, inl (_, leaves))) = rw (tells, leaves) (quiet term_length trace m lives)
      by_life (Some x) alive (inr (_, tells, inr (_, _, leaves))) =
          rw (tells, leaves) (quiet term_length trace (without_lifetime m)
          (lives.0, between_of term_length trace m.closed lives.0 m.entries m.outstanding_work m.life lives.1))

  -- a restart

  from_copy : (n : MemberFacts K L D) (start : StartFacts K L D) (kept : ℕ) (copy : List (ArtifactFacts D))
      → HasTerms term_length start.setup → Between term_length trace n.closed kept n.entries → IsByView n.entries copy
      → first_recover_error same start.setup.settings.epoch start.setup.me start.floor copy ≡ None
      → MemberLives term_length (trace ++ of_floor start.floor) (new_lifetime same elect n start copy)
  from_copy n start kept copy fresh between by_view none =
      let x = new_state start.setup in
      let epochs = all_of_epoch same x.settings.epoch x.me [] copy
      (unbroken same x.settings.epoch x.me start.floor copy none) in
      let here : Between x.terms.term_length trace n.closed kept n.entries =
      subst (λ t. Between t trace n.closed kept n.entries) (sym fresh.terms) between in
      let lives = new_life_lives same decides elect x.settings x.me x.members x.elector x.terms x.elects_early trace
      n.closed kept n.entries copy start.floor start.now here by_view.of_each_view epochs in (
        kept,
        subst (λ t. Living t (trace ++ of_floor start.floor) n.closed kept
            (new_lifetime same elect n start copy).entries no_outstanding_work
            (recovered_state same elect x start.floor start.now copy)) fresh.terms lives,
      )

  -- if a lifetime is refused, the rest of the record stays
  refused_life : (n : MemberFacts K L D) (kept : ℕ) → Between term_length trace n.closed kept n.entries
      → MemberLives term_length (trace ++ []) (without_lifetime n)
  refused_life n kept between = quiet term_length trace (without_lifetime n) (kept, between)

  continues : (n : MemberFacts K L D) (r : RestartFacts K L D) (result : Result (Unit {0}) RecoverError)
      (left : MemberFacts K L D) (kept : ℕ) → HasTerms term_length r.start.setup
      → Between term_length trace n.closed kept n.entries → RecoversByView same elect n r.start result left
      → MemberLives term_length (trace ++ trace_at (Restarts r) (restart_reply {K = K} {D = D} result)) left
  continues n r result left kept fresh between (inl (is, leaves)) = rw (is, leaves) (refused_life n kept between)
  continues n r result left kept fresh between (inr (copy, by_view, goes)) =
      by_error (recover_error same (new_state r.start.setup) r.start.floor r.start.now copy) refl goes
    where
      by_error : (o : Option RecoverError) → recover_error same (new_state r.start.setup) r.start.floor r.start.now
          copy ≡ o → MatchOption o ((result ≡ Ok tt) × (left ≡ new_lifetime same elect n r.start copy))
          (λ e. (result ≡ Err e) × (left ≡ without_lifetime n))
          → MemberLives term_length (trace ++ trace_at (Restarts r) (restart_reply {K = K} {D = D} result)) left
      by_error None none (is, leaves) =
          rw (is, leaves)
          (subst (λ more. MemberLives term_length (trace ++ more) (new_lifetime same elect n r.start copy))
          (sym (append-nil (of_floor r.start.floor)))
          (from_copy n r.start kept copy fresh between by_view
          (first_none (first_recover_error same r.start.setup.settings.epoch r.start.setup.me r.start.floor copy) _
          none).0))
      by_error (Some e) due (is, leaves) = rw (is, leaves) (refused_life n kept between)

  pub restart_lives_on : (r : RestartFacts K L D) (result : Result (Unit {0}) RecoverError) (left : MemberFacts K L D)
      → HasTerms term_length r.start.setup → MemberLives term_length trace m → IsRestart same elect m r result left
      → MemberLives term_length (trace ++ trace_at (Restarts r) (restart_reply {K = K} {D = D} result)) left
  unfolding IsRestart
  restart_lives_on r result left fresh lives restarts =
      by_test (retention_grows m r.prune r.start.setup.settings.view_retention) restarts
    where
      by_test : (b : Bool) → IsRestartWhere same elect b m r result left
          → MemberLives term_length (trace ++ trace_at (Restarts r) (restart_reply {K = K} {D = D} result)) left
      by_test true (is, leaves) = rw (is, leaves) (quiet term_length trace m lives)
      by_test false goes =
          let between = cut_between term_length trace m r.drop lives.0 r.prune
          (between_of term_length trace m.closed lives.0 m.entries m.outstanding_work m.life lives.1) in
          continues (cut_member m r.drop r.prune) r result left between.0 fresh between.1 goes

module _ {K L D : Type 0} (same : D → D → Bool) (decides : (d e : D) → same d e ≡ true → d ≡ e) (elect : Elect L)
    (term_length : ℕ) (some : 0 < term_length) where
  keep_parts : (step : StepFacts K L D) (steps : List (StepFacts K L D)) → KeepTerms term_length (step ∷ steps)
      → KeepTerms term_length (step ∷ []) × KeepTerms term_length steps
  keep_parts (Calls call) steps keep = (tt, keep)
  keep_parts Prunes steps keep = (tt, keep)
  keep_parts (Restarts r) steps keep = ((keep.0, tt), keep.1)

  -- a step, and the terms that later steps keep
  pub step_lives : (step : StepFacts K L D) (steps : List (StepFacts K L D)) (replied : ReplyFacts K D)
      (trace : List (TraceEvent D)) (m next : MemberFacts K L D) → KeepTerms term_length (step ∷ steps)
      → MemberLives term_length trace m → IsStep same elect m step replied next
      → KeepTerms term_length steps × MemberLives term_length (trace ++ trace_at step replied) next
  step_lives step steps replied trace m next keep lives is_step = let parts = keep_parts step steps keep in
      (parts.1, by_kind step parts.0 is_step)
    where
      by_kind : (s : StepFacts K L D) → KeepTerms term_length (s ∷ []) → IsStep same elect m s replied next
          → MemberLives term_length (trace ++ trace_at s replied) next
      by_kind (Calls call) fresh is = call_lives_on same decides elect term_length some trace m call replied next lives
          is
      by_kind Prunes fresh is = rw (is.0, is.1) (prune_lives_on term_length trace m lives)
      by_kind (Restarts r) fresh is = rw is.2
          (restart_lives_on same decides elect term_length some trace m r is.0 next fresh.0 lives is.1)

  pub run_lives : (steps : List (StepFacts K L D)) (replies : List (ReplyFacts K D)) (trace : List (TraceEvent D))
      (m end : MemberFacts K L D) → KeepTerms term_length steps → MemberLives term_length trace m
      → IsRun same elect m steps replies end → MemberLives term_length (trace ++ trace_of_steps steps replies) end
  run_lives [] [] trace m end keep lives run =
      subst (MemberLives term_length (trace ++ [])) run (quiet term_length trace m lives)
  run_lives [] (replied ∷ replies) trace m end keep lives run = absurd run
  run_lives (step ∷ steps) [] trace m end keep lives run = absurd run
  run_lives (step ∷ steps) (replied ∷ replies) trace m end keep lives (next, is_step, rest) =
      let kept = step_lives step steps replied trace m next keep lives is_step in
      subst (λ a. MemberLives term_length a end)
      (append_assoc trace (trace_at step replied) (trace_of_steps steps replies))
      (run_lives steps replies (trace ++ trace_at step replied) next end kept.0 kept.1 rest)

  pub run_lawful : (steps : List (StepFacts K L D)) (replies : List (ReplyFacts K D)) (trace : List (TraceEvent D))
      (m end : MemberFacts K L D) → KeepTerms term_length steps → MemberLives term_length trace m
      → IsRun same elect m steps replies end → IsLawful term_length (trace ++ trace_of_steps steps replies)
  run_lawful steps replies trace m end fresh lives run =
      let last = run_lives steps replies trace m end fresh lives run in
      (between_of term_length (trace ++ trace_of_steps steps replies) end.closed last.0 end.entries end.outstanding_work
      end.life last.1).lawful

-- nothing was done and nothing is recorded
nothing_between : {D : Type 0} (term_length : ℕ) → Between {D = D} term_length [] 0 0 []
nothing_between term_length = record {
  lawful = lawful_start term_length;
  remembers = record {
    accepted = λ c h. absurd (omega (arith, h.1));
    nullify_cast = λ round m h. absurd (omega (arith, h.1));
    finalize_cast = λ p m h. absurd (omega (arith, h.1));
    nullify_kept = λ round h. absurd (signed_none (subject.Nullify round) h);
    finalize_kept = λ p h. absurd (signed_none (subject.Finalize p) h);
    above_genesis = λ round h. absurd (signed_none (subject.Nullify round) h);
    judged = λ before after p m split. absurd (none_split before after (FinalizeVote p m) split);
  };
  notes = nothing_noted;
  high = inl refl;
  within = omega arith;
}

module _ {K L D : Type 0} (same : D → D → Bool) (decides : (d e : D) → same d e ≡ true → d ≡ e) (elect : Elect L)
    (term_length : ℕ) (start : StartFacts K L D) (begins : HasTerms term_length start.setup) where
  pub start_lives : MemberLives term_length (of_floor start.floor) (new_member same elect start)
  unfolding recovered_state
  start_lives =
      let x = new_state start.setup in
      let lives = new_life_lives same decides elect x.settings x.me x.members x.elector x.terms x.elects_early [] 0 0 []
      [] start.floor start.now (nothing_between x.terms.term_length) (λ v. refl)
      (λ e h. absurd (omega (arith, h.1))) in
      let whole : List (ArtifactFacts D) = with_floor [] start.floor in (
        0,
        subst (λ t. Living t (of_floor start.floor) 0 0 whole no_outstanding_work
            (recovered_state same elect x start.floor start.now [])) begins.terms lives,
      )

  -- from the start on
  pub run_from_lawful : (steps : List (StepFacts K L D)) (replies : List (ReplyFacts K D)) → KeepTerms term_length steps
      → IsRunFrom same elect start steps replies
      → IsLawful term_length (of_floor start.floor ++ trace_of_steps steps replies)
  unfolding IsRunFrom
  run_from_lawful steps replies fresh (accepted, end, run) =
      run_lawful same decides elect term_length begins.some steps replies (of_floor start.floor)
      (new_member same elect start) end fresh start_lives run

-- the lifetimes of a member of a network share a length of terms
pub keep_terms : {K L D : Type 0} (term_length i : ℕ) (steps : List (StepFacts K L D))
    → ((r : RestartFacts K L D) → Contains steps (Restarts r) → BeginsAs term_length i r.start.setup)
    → KeepTerms term_length steps
keep_terms term_length i [] later = tt
keep_terms term_length i (Calls call ∷ steps) later =
    keep_terms term_length i steps (λ r h. later r (Contains-cons_rest (Calls call) steps (Restarts r) h))
keep_terms term_length i (Prunes ∷ steps) later =
    keep_terms term_length i steps (λ r h. later r (Contains-cons_rest Prunes steps (Restarts r) h))
keep_terms term_length i (Restarts q ∷ steps) later = (
  (later q (0, omega arith, refl)).terms,
  keep_terms term_length i steps (λ r h. later r (Contains-cons_rest (Restarts q) steps (Restarts r) h)),
)

module _ {K L D : Type 0} (same : D → D → Bool) (decides : (d e : D) → same d e ≡ true → d ≡ e) (elect : Elect L)
    (term_length : ℕ) where
  -- the trace of a network's member is lawful
  pub execution_lawful : (i : ℕ) (s : Execution K L D) → IsExecution same elect term_length i s
      → IsLawful term_length (trace_of s)
  execution_lawful i s ran = run_from_lawful same decides elect term_length s.start ran.lives.first.terms s.steps
      s.replies (keep_terms term_length i s.steps ran.lives.later) ran.run
