-- For `current_views_time_out`.
-- The current view of each state of a run times out: it is neither certified nor decided to be finalized, since such a
-- view is
-- left. So no poll of a living member is refused but for its moment.
use Rattle.std.proofs.Common.{◌≡◌, refl, ap, sym, ◌∙◌, subst, ℕ, ◌+◌, ◌<◌, inl, inr, Bool, true, false, ◌&&◌, ◌||◌, not, if◌then◌else◌, List, [], ◌∷◌, ◌++◌, Option, Some, None, is_some, unwrap_or, option_map, arith}
use Rattle.std.specs.Option.{option_map_or}
use Rattle.std.specs.Prelude.{MatchOption}
use Rattle.std.proofs.lemmas.Bool.{false≢true}
use Rattle.simplex_types.specs.Certificates.{ArtifactFacts}
use Rattle.simplex_types.specs.declared.reasons.TimeoutReason.{TimeoutReason}
use Rattle.simplex_round.specs.declared.round.Decision.TheVariants as decision
use Rattle.simplex_round.specs.Round.{RoundFacts, new_round, with_retry, awaits_retry, has_no_retry, round_timeout}
use Rattle.simplex_voter.specs.Facts.{StateFacts, Elect, round_at, round_of, round_number}
use Rattle.simplex_voter.specs.Refusals.{first_fault, is_past_u64}
use Rattle.simplex_voter.specs.Timeouts.{has_timeout, has_skip_budget, or_stalled, stall_deadline, next_timeout_answer}
use Rattle.simplex_voter.proofs.Gaps.{and_parts, not_true}
use Rattle.simplex_member.specs.Calls.{NextTimeout, ReplyFacts, TimesOut}
use Rattle.simplex_member.specs.MemberFacts.{MemberFacts, IsCall, AnswersAlive, unless_refused}
use Rattle.simplex_member.specs.OutstandingWork.{OutstandingWork}
use Rattle.simplex_member.specs.Runs.{StepFacts, Calls, Prunes, Restarts, IsStep, IsRun}
use Rattle.simplex_record.specs.Start.{StartFacts, new_state}
use Rattle.laws_safety.specs.Executions.{new_member}
use Rattle.laws_safety.specs.Traces.{TraceEvent, of_floor, trace_at, trace_of_steps}
use Rattle.laws_safety.specs.LifetimeLaws.{CurrentTimesOut, PollIsAnswered, PollsAreAnswered}
use Rattle.laws_safety.specs.TermLengths.{HasTerms, KeepTerms}
use Rattle.laws_safety.proofs.frames.Fresh.{fresh_state}
use Rattle.laws_safety.proofs.frames.RunsKeep.{HoldsIn, replied_keeps, restart_keeps, run_induction}
use Rattle.laws_safety.proofs.lives.ViewTimeouts.{TimesOut as Timed, floor_times_out, event_times_out, says_timeout}
use Rattle.laws_safety.proofs.records.RunsLawful.{LivesOn, MemberLives, step_lives, run_lives, start_lives}

-- a view that is certified or decided to be finalized lies below the current one
has_its_timeout : {K L D : Type 0} (term_length : ℕ) (trace : List (TraceEvent D)) (closed kept : ℕ)
    (entries : List (ArtifactFacts D)) (o : OutstandingWork K D) (x : StateFacts K L D) → Timed x
    → LivesOn term_length trace closed kept entries o (Some x) → has_timeout x ≡ true
has_its_timeout term_length trace closed kept entries o x timed lives =
    let here = lives.keeps.stays.stands.rounds x.current in
    elim (says_timeout x timed) [
      | inl times_out ↦ times_out
      | inr (inl certified) ↦ absurd (let left = here.entered certified in omega (arith, left))
      | inr (inr decided) ↦ absurd (let left = here.left decided in omega (arith, left))
    ]

-- the result of a poll

some_mapped : {A B : Type 0} (f : A → B) (o : Option A) → is_some o ≡ true → (b : B) × (option_map f o ≡ Some b)
some_mapped f None is = absurd (false≢true is)
some_mapped f (Some a) is = (f a, refl)

module _ {K D : Type 0} (r : RoundFacts K D) (now interval : ℕ) (allow : Bool) where
  -- a view that has a timeout has one once its retry is set
  retried : (awaits_retry r || is_some (round_timeout r allow)) ≡ true
      → is_some (round_timeout (with_retry r now interval) allow) ≡ true
  retried due = by_retry (awaits_retry r) refl due
    where
      by_retry : (b : Bool) → awaits_retry r ≡ b → (b || is_some (round_timeout r allow)) ≡ true
          → is_some (round_timeout (if b then record r { decision = decision.Nullify (Some (now + interval)) } else r)
          allow) ≡ true
      by_retry true awaits some = let unfinalized =
          not_true (is_some r.finalization)
          (and_parts (not (is_some r.finalization)) (has_no_retry r.decision) awaits).0 in rw unfinalized refl
      by_retry false awaits some = some

module _ {K L D : Type 0} (x : StateFacts K L D) (now : ℕ) where
  polled : has_timeout x ≡ true → (moment : ℕ × TimeoutReason) × (next_timeout_answer x now ≡ Some moment)
  polled due = by_round (round_at x x.current) refl due
    where
      Answers : RoundFacts K D → Type 0
      Answers r = (moment : ℕ × TimeoutReason)
          × (option_map (or_stalled (stall_deadline x) now)
          (round_timeout (with_retry r now x.settings.timeout_retry) (has_skip_budget x)) ≡ Some moment)

      by_round : (o : Option (RoundFacts K D)) → round_at x x.current ≡ o
          → option_map_or (λ r. awaits_retry r || is_some (round_timeout r (has_skip_budget x))) o false ≡ true
          → Answers (round_of x x.current)
      by_round None untracked some = absurd (false≢true some)
      by_round (Some r) there some = subst Answers
          (sym (ap (λ o. unwrap_or o (new_round x.me x.members (round_number x x.current))) there))
          (some_mapped (or_stalled (stall_deadline x) now)
          (round_timeout (with_retry r now x.settings.timeout_retry) (has_skip_budget x))
          (retried r now x.settings.timeout_retry (has_skip_budget x) some))

module _ {K L D : Type 0} (same : D → D → Bool) (elect : Elect L) where
  poll_answered : (m next : MemberFacts K L D) (now : ℕ) (replied : ReplyFacts K D)
      → ((x : StateFacts K L D) → m.life ≡ Some x → has_timeout x ≡ true)
      → IsCall same elect m (NextTimeout now) replied next → PollIsAnswered {L = L} (Calls (NextTimeout now)) replied
  unfolding IsCall
  poll_answered m next now replied has is_call = by_life m.life refl is_call
    where
      by_life : (o : Option (StateFacts K L D)) → m.life ≡ o
          → AnswersAlive same elect o m (NextTimeout now) replied next
          → PollIsAnswered {L = L} (Calls (NextTimeout now)) replied
      by_life None dead (tells, leaves) = inr (inl tells)
      by_life (Some x) alive (inr (_, _, inl (needs, _))) = absurd (false≢true needs)
      by_life (Some x) alive (inr (_, _, inr (_, falls, _))) = absurd (false≢true falls)
      by_life (Some x) alive (inl (tells, leaves)) =
          by_fault x.failed (awaits_retry (round_of x x.current) && is_past_u64 (now + x.settings.timeout_retry))
          (tells ∙ rw due refl)
        where
          due : has_timeout x ≡ true
          due = has x alive

          by_fault : (failed late : Bool) → replied ≡ unless_refused (first_fault failed false late)
              (TimesOut (next_timeout_answer x now)) → PollIsAnswered {L = L} (Calls (NextTimeout now)) replied
          by_fault true late is = inr (inl is)
          by_fault false true is = inr (inr is)
          by_fault false false is = let answer = polled x now due in inl (answer.0, is ∙ ap TimesOut answer.1)

-- of each state and each step of a run

module _ {K L D : Type 0} (same : D → D → Bool) (decides : (d e : D) → same d e ≡ true → d ≡ e) (elect : Elect L) where
  pub states_time_out : (term_length : ℕ) (start : StartFacts K L D) (steps : List (StepFacts K L D))
      (replies : List (ReplyFacts K D)) (end : MemberFacts K L D) → HasTerms term_length start.setup
      → KeepTerms term_length steps
      → IsRun same elect (new_member same elect start) steps replies end
      → MatchOption end.life (Unit {0}) CurrentTimesOut
  states_time_out term_length start steps replies end begins keep run =
      let lives = run_lives same decides elect term_length begins.some steps replies (of_floor start.floor) _ end keep
      (start_lives same decides elect term_length start begins) run in
      by_life lives.0 end.life (run_induction same elect term_length Timed (floor_times_out same elect term_length)
      (event_times_out same elect) start steps replies end begins keep run) lives.1
    where
      trace : List (TraceEvent D)
      trace = of_floor start.floor ++ trace_of_steps steps replies

      by_life : (kept : ℕ) (life : Option (StateFacts K L D)) → HoldsIn Timed life
          → LivesOn term_length trace end.closed kept end.entries end.outstanding_work life
          → MatchOption life (Unit {0}) CurrentTimesOut
      by_life kept None timed lives = tt
      by_life kept (Some x) timed lives = record {
        ahead = timed.ahead;
        timeout = has_its_timeout term_length trace end.closed kept end.entries
            end.outstanding_work x timed lives;
      }

module _ {K L D : Type 0} (same : D → D → Bool) (decides : (d e : D) → same d e ≡ true → d ≡ e) (elect : Elect L)
    (term_length : ℕ) (some : 0 < term_length) where
  step_times_out : (step : StepFacts K L D) (steps : List (StepFacts K L D)) (replied : ReplyFacts K D)
      (m next : MemberFacts K L D) → KeepTerms term_length (step ∷ steps) → HoldsIn Timed m.life
      → IsStep same elect m step replied next → HoldsIn Timed next.life
  step_times_out (Calls call) steps replied m next keep timed is_step =
      replied_keeps same elect term_length Timed (floor_times_out same elect term_length) (event_times_out same elect) m
      call replied next is_step timed
  step_times_out Prunes steps replied m next keep timed is_step = rw is_step.1 timed
  step_times_out (Restarts r) steps replied m next keep timed is_step =
      restart_keeps same elect term_length Timed (floor_times_out same elect term_length) (event_times_out same elect) m
      r is_step.0 next keep.0 timed is_step.1

  step_answered : (step : StepFacts K L D) (replied : ReplyFacts K D) (trace : List (TraceEvent D))
      (m next : MemberFacts K L D) → HoldsIn Timed m.life → MemberLives term_length trace m
      → IsStep same elect m step replied next → PollIsAnswered step replied
  step_answered (Calls (NextTimeout now)) replied trace m next timed lives is_step =
      poll_answered same elect m next now replied
      (λ x alive. has_its_timeout term_length trace m.closed lives.0 m.entries m.outstanding_work x
      (subst (HoldsIn Timed) alive timed)
      (subst (LivesOn term_length trace m.closed lives.0 m.entries m.outstanding_work) alive lives.1)) is_step
  step_answered _ replied trace m next timed lives is_step = tt

  run_polls : (steps : List (StepFacts K L D)) (replies : List (ReplyFacts K D)) (trace : List (TraceEvent D))
      (m end : MemberFacts K L D) → KeepTerms term_length steps → HoldsIn Timed m.life → MemberLives term_length trace m
      → IsRun same elect m steps replies end → PollsAreAnswered steps replies
  run_polls [] replies trace m end keep timed lives run = tt
  run_polls (step ∷ steps) [] trace m end keep timed lives run = tt
  run_polls (step ∷ steps) (replied ∷ replies) trace m end keep timed lives (next, is_step, rest) =
      let kept = step_lives same decides elect term_length some step steps replied trace m next keep lives is_step in (
        step_answered step replied trace m next timed lives is_step,
        run_polls steps replies (trace ++ trace_at step replied) next end kept.0
            (step_times_out step steps replied m next keep timed is_step) kept.1 rest,
      )

module _ {K L D : Type 0} (same : D → D → Bool) (decides : (d e : D) → same d e ≡ true → d ≡ e) (elect : Elect L) where
  pub polls_answered : (term_length : ℕ) (start : StartFacts K L D) (steps : List (StepFacts K L D))
      (replies : List (ReplyFacts K D)) (end : MemberFacts K L D) → HasTerms term_length start.setup
      → KeepTerms term_length steps
      → IsRun same elect (new_member same elect start) steps replies end → PollsAreAnswered steps replies
  polls_answered term_length start steps replies end begins keep run =
      run_polls same decides elect term_length begins.some steps replies (of_floor start.floor)
      (new_member same elect start) end keep
      (floor_times_out same elect term_length (new_state start.setup) start.floor start.now
      (fresh_state term_length start.setup begins))
      (start_lives same decides elect term_length start begins)
      run
