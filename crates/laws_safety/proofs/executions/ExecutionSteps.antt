-- A member's execution continues step by step.
use Rattle.std.proofs.Common.{◌≡◌, refl, ap, sym, subst, ℕ, inl, inr, Bool, true, List, [], ◌∷◌, ◌++◌, append_assoc, ◌∙◌, None, Result, Ok, Err, arith}
use Rattle.std.specs.Prelude.{IfOk}
use Rattle.std.proofs.lemmas.List.Elements.{Contains-append_cases}
use Rattle.simplex_voter.specs.Facts.{Elect}
use Rattle.simplex_record.specs.declared.record.error.RecoverError.{RecoverError}
use Rattle.simplex_member.specs.Calls.{CallFacts, ReplyFacts, Done}
use Rattle.simplex_member.specs.PrunedRecord.{pruned_member}
use Rattle.simplex_member.specs.MemberFacts.{MemberFacts, IsCall}
use Rattle.simplex_record.specs.Recovery.{recover_error}
use Rattle.simplex_member.specs.Restarts.{RestartFacts, IsRestart}
use Rattle.simplex_member.specs.Runs.{StepFacts, Calls, Prunes, Restarts, restart_reply, IsStep, IsRun, IsRunFrom}
use Rattle.simplex_record.specs.Start.{StartFacts, new_state}
use Rattle.std.proofs.lemmas.List.{append-nil}
use Rattle.laws_safety.specs.MemberHistory.{new_execution, with_step, HasExecution, HasHistory}
use Rattle.laws_safety.specs.Traces.{TraceEvent, of_floor, trace_at, trace_of_steps}
use Rattle.laws_safety.specs.Lawful.{IsLawful}
use Rattle.laws_safety.specs.Executions.{new_member, Execution, trace_of, BeginsAs, RunsAs, IsExecution}
use Rattle.laws_safety.proofs.records.RunsLawful.{execution_lawful}
use Rattle.laws_safety.proofs.lists.Splits.{only_one}

module _ {K L D : Type 0} where
  same_restart : (q r : RestartFacts K L D) → Restarts q ≡ Restarts r → q ≡ r
  same_restart q r e = cc

pub if_ok_on : {X E : Type 0} (r : Result X E) {P Q : X → Type 0} → ((x : X) → P x → Q x) → IfOk r P → IfOk r Q
if_ok_on (Ok x) on h = on x h
if_ok_on (Err e) on h = tt

module _ {K L D : Type 0} (same : D → D → Bool) (elect : Elect L) where
  run_push : (m mid next : MemberFacts K L D) (steps : List (StepFacts K L D)) (replies : List (ReplyFacts K D))
      (step : StepFacts K L D) (replied : ReplyFacts K D) → IsRun same elect m steps replies mid
      → IsStep same elect mid step replied next → IsRun same elect m (steps ++ step ∷ []) (replies ++ replied ∷ []) next
  run_push m mid next [] [] step replied run is_step =
      (next, subst (λ k. IsStep same elect k step replied next) (sym run) is_step, refl)
  run_push m mid next [] (t ∷ replies) step replied run is_step = absurd run
  run_push m mid next (s ∷ steps) [] step replied run is_step = absurd run
  run_push m mid next (s ∷ steps) (t ∷ replies) step replied (k, first, run) is_step =
      (k, first, run_push k mid next steps replies step replied run is_step)

  module _ (term_length i : ℕ) where
    lives_on : (start : StartFacts K L D) (steps : List (StepFacts K L D)) (step : StepFacts K L D)
        → RunsAs term_length i start steps → ((r : RestartFacts K L D) → step ≡ Restarts r
        → BeginsAs term_length i r.start.setup) → RunsAs term_length i start (steps ++ step ∷ [])
    lives_on start steps step lives begins = record {
      first = lives.first;
      later = λ r h. elim (Contains-append_cases steps (step ∷ []) (Restarts r) h)
          [ inl old ↦ lives.later r old | inr new ↦ begins r (only_one step (Restarts r) new) ];
    }

    step_on : (s : Execution K L D) (m next : MemberFacts K L D) (step : StepFacts K L D) (replied : ReplyFacts K D)
        → ((r : RestartFacts K L D) → step ≡ Restarts r → BeginsAs term_length i r.start.setup)
        → HasExecution same elect term_length i s m → IsStep same elect m step replied next
        → HasExecution same elect term_length i (with_step s step replied) next
    step_on s m next step replied begins has is_step = record {
      lives = lives_on s.start s.steps step has.lives begins;
      accepted = has.accepted;
      run = run_push (new_member same elect s.start) m next s.steps s.replies step replied has.run is_step;
    }

    pub begin_execution : (start : StartFacts K L D) (m : MemberFacts K L D) → BeginsAs term_length i start.setup
        → recover_error same (new_state start.setup) start.floor start.now [] ≡ None → m ≡ new_member same elect start
        → HasExecution same elect term_length i (new_execution start) m
    begin_execution start m begins none is = record {
      lives = record { first = begins; later = λ r h. absurd (omega (arith, h.1)) };
      accepted = none;
      run = sym is;
    }

    pub call_on : (s : Execution K L D) (m next : MemberFacts K L D) (call : CallFacts D) (replied : ReplyFacts K D)
        → IsCall same elect m call replied next → HasExecution same elect term_length i s m
        → HasExecution same elect term_length i (with_step s (Calls call) replied) next
    call_on s m next call replied is_call has = step_on s m next (Calls call) replied (λ r e. absurd (cc)) has is_call

    pub prune_on : (s : Execution K L D) (m : MemberFacts K L D) → HasExecution same elect term_length i s m
        → HasExecution same elect term_length i (with_step s Prunes Done) (pruned_member m)
    prune_on s m has = step_on s m (pruned_member m) Prunes Done (λ r e. absurd (cc)) has (refl, refl)

    pub restart_on : (s : Execution K L D) (m next : MemberFacts K L D) (q : RestartFacts K L D)
        (result : Result (Unit {0}) RecoverError) → IsRestart same elect m q result next
        → BeginsAs term_length i q.start.setup → HasExecution same elect term_length i s m
        → HasExecution same elect term_length i (with_step s (Restarts q) (restart_reply result)) next
    restart_on s m next q result restarts begins has =
        step_on s m next (Restarts q) (restart_reply result)
        (λ r e. subst (λ (p : RestartFacts K L D). BeginsAs term_length i p.start.setup) (same_restart q r e) begins)
        has (result, restarts, refl)

    -- what it has done grows by what the step shows

    steps_pushed : (m end : MemberFacts K L D) (steps : List (StepFacts K L D)) (replies : List (ReplyFacts K D))
        (step : StepFacts K L D) (replied : ReplyFacts K D) → IsRun same elect m steps replies end
        → trace_of_steps (steps ++ step ∷ []) (replies ++ replied ∷ []) ≡ trace_of_steps steps replies ++ trace_at step
        replied
    steps_pushed m end [] [] step replied run = append-nil (trace_at step replied)
    steps_pushed m end [] (t ∷ replies) step replied run = absurd run
    steps_pushed m end (s ∷ steps) [] step replied run = absurd run
    steps_pushed m end (s ∷ steps) (t ∷ replies) step replied (next, is_step, run) =
        ap (λ ds. trace_at s t ++ ds) (steps_pushed next end steps replies step replied run)
        ∙ sym (append_assoc (trace_at s t) (trace_of_steps steps replies) (trace_at step replied))

    done_on : (s : Execution K L D) (m next : MemberFacts K L D) (step : StepFacts K L D) (replied : ReplyFacts K D)
        (all more : List (TraceEvent D)) → HasExecution same elect term_length i s m → trace_of s ≡ all
        → trace_at step replied ≡ more → HasExecution same elect term_length i (with_step s step replied) next
        → HasHistory same elect term_length i (all ++ more) next
    done_on s m next step replied all more has is shows now = record {
      execution = with_step s step replied;
      executed = now;
      same_trace =
          ap (λ ds. of_floor s.start.floor ++ ds)
          (steps_pushed (new_member same elect s.start) m s.steps s.replies step replied has.run)
          ∙ (sym (append_assoc (of_floor s.start.floor) (trace_of_steps s.steps s.replies) (trace_at step replied))
          ∙ (ap (λ ds. ds ++ trace_at step replied) is ∙ ap (λ ds. all ++ ds) shows));
    }

    pub start_done : (start : StartFacts K L D) (m : MemberFacts K L D) (all : List (TraceEvent D))
        → BeginsAs term_length i start.setup → recover_error same (new_state start.setup) start.floor start.now
        [] ≡ None → m ≡ new_member same elect start → of_floor start.floor ≡ all
        → HasHistory same elect term_length i all m
    start_done start m all begins none is shows =
        record {
          execution = new_execution start;
          executed = begin_execution start m begins none is;
          same_trace = append-nil (of_floor start.floor) ∙ shows;
        }

    pub call_done : (m next : MemberFacts K L D) (call : CallFacts D) (replied : ReplyFacts K D)
        (all more : List (TraceEvent D)) → IsCall same elect m call replied next
        → trace_at {L = L} (Calls call) replied ≡ more → HasHistory same elect term_length i all m
        → HasHistory same elect term_length i (all ++ more) next
    call_done m next call replied all more is_call shows done =
        done_on done.execution m next (Calls call) replied all more done.executed done.same_trace shows
        (call_on done.execution m next call replied is_call done.executed)

    pub prune_done : (m : MemberFacts K L D) (all : List (TraceEvent D)) → HasHistory same elect term_length i all m
        → HasHistory same elect term_length i (all ++ []) (pruned_member m)
    prune_done m all done = done_on done.execution m (pruned_member m) Prunes Done all
        [] done.executed done.same_trace refl
        (prune_on done.execution m done.executed)

    pub restart_done : (m next : MemberFacts K L D) (q : RestartFacts K L D) (result : Result (Unit {0}) RecoverError)
        (all more : List (TraceEvent D)) → IsRestart same elect m q result next → BeginsAs term_length i q.start.setup
        → trace_at (Restarts q) (restart_reply {K = K} {D = D} result) ≡ more
        → HasHistory same elect term_length i all m → HasHistory same elect term_length i (all ++ more) next
    restart_done m next q result all more restarts begins shows done =
        done_on done.execution m next (Restarts q) (restart_reply result) all more done.executed done.same_trace shows
        (restart_on done.execution m next q result restarts begins done.executed)

    pub execution_ran : (s : Execution K L D) (m : MemberFacts K L D) → HasExecution same elect term_length i s m
        → IsExecution same elect term_length i s
    unfolding IsRunFrom
    execution_ran s m has = record { lives = has.lives; run = (has.accepted, m, has.run) }

    pub done_ran : (all : List (TraceEvent D)) (m : MemberFacts K L D) → HasHistory same elect term_length i all m
        → (s : Execution K L D) × IsExecution same elect term_length i s × (trace_of s ≡ all)
    done_ran all m done = (done.execution, execution_ran done.execution m done.executed, done.same_trace)

    module _ (decides : (d e : D) → same d e ≡ true → d ≡ e) where
      pub so_far_lawful : (s : Execution K L D) (m : MemberFacts K L D) → HasExecution same elect term_length i s m
          → IsLawful term_length (trace_of s)
      so_far_lawful s m has = execution_lawful same decides elect term_length i s (execution_ran s m has)

      pub done_lawful : (all : List (TraceEvent D)) (m : MemberFacts K L D) → HasHistory same elect term_length i all m
          → IsLawful term_length all
      done_lawful all m done = subst (IsLawful term_length) done.same_trace
          (so_far_lawful done.execution m done.executed)
