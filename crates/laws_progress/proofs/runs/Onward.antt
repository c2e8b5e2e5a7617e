-- An execution that continues by calls.
use Rattle.std.proofs.Common.{◌≡◌, refl, ap, sym, ◌∙◌, subst, inl, inr, ℕ, Bool, List, [], ◌∷◌, ◌++◌, append_assoc, map, Contains, arith}
use Rattle.std.proofs.lemmas.List.Elements.{Contains-append_cases}
use Rattle.simplex_voter.specs.Facts.{Elect}
use Rattle.simplex_member.specs.Calls.{CallFacts, ReplyFacts}
use Rattle.simplex_member.specs.MemberFacts.{MemberFacts}
use Rattle.simplex_member.specs.Runs.{StepFacts, Calls, Restarts, IsRun, IsRunFrom}
use Rattle.laws_safety.specs.Continuations.{ExecutionContinues}
use Rattle.laws_safety.specs.Traces.{TraceEvent, of_floor, trace_at, trace_of_steps}
use Rattle.laws_safety.specs.Executions.{new_member, Execution, trace_of, IsExecution}
use Rattle.laws_safety.proofs.lists.Splits.{Contains-cases}
use Rattle.laws_progress.specs.ViewCauses.{judged_by, judged_in}
use Rattle.laws_progress.proofs.states.Sequences.{Does}

-- verdicts that are received one after another
pub judged_joined : {K D : Type 0} (replies more : List (ReplyFacts K D))
    → judged_in (replies ++ more) ≡ judged_in replies ++ judged_in more
judged_joined [] more = refl
judged_joined (replied ∷ replies) more = ap (λ ps. judged_by replied ++ ps) (judged_joined replies more)
    ∙ sym (append_assoc (judged_by replied) (judged_in replies) (judged_in more))

module _ {K L D : Type 0} where
  -- a call is no restart
  pub only_calls : (calls : List (CallFacts D)) (r : _) → Contains {X = StepFacts K L D} (map Calls calls) (Restarts r)
      → ⊥
  only_calls [] r h = absurd (omega (arith, h.1))
  only_calls (call ∷ calls) r h = elim (Contains-cases (Calls call) (map Calls calls) (Restarts r) h)
      [ inl here ↦ absurd (cc) | inr later ↦ only_calls calls r later ]

module _ {K L D : Type 0} (same : D → D → Bool) (elect : Elect L) where
  pub run_joined : (steps more : List (StepFacts K L D)) (replied rest : List (ReplyFacts K D))
      (m n end : MemberFacts K L D) → IsRun same elect m steps replied n → IsRun same elect n more rest end
      → IsRun same elect m (steps ++ more) (replied ++ rest) end
  run_joined [] more [] rest m n end run goes = subst (λ k. IsRun same elect k more rest end) (sym run) goes
  run_joined [] more (t ∷ replied) rest m n end run goes = absurd run
  run_joined (s ∷ steps) more [] rest m n end run goes = absurd run
  run_joined (s ∷ steps) more (t ∷ replied) rest m n end (next, is_step, run) goes =
      (next, is_step, run_joined steps more replied rest next n end run goes)

  pub traces_joined : (steps more : List (StepFacts K L D)) (replied rest : List (ReplyFacts K D))
      (m n : MemberFacts K L D) → IsRun same elect m steps replied n
      → trace_of_steps (steps ++ more) (replied ++ rest) ≡ trace_of_steps steps replied ++ trace_of_steps more rest
  traces_joined [] more [] rest m n run = refl
  traces_joined [] more (t ∷ replied) rest m n run = absurd run
  traces_joined (s ∷ steps) more [] rest m n run = absurd run
  traces_joined (s ∷ steps) more (t ∷ replied) rest m n (next, is_step, run) =
      ap (λ ds. trace_at s t ++ ds) (traces_joined steps more replied rest next n run)
      ∙ sym (append_assoc (trace_at s t) (trace_of_steps steps replied) (trace_of_steps more rest))

  -- each step beside its reply
  pub paired : (steps : List (StepFacts K L D)) (replied : List (ReplyFacts K D)) (m n : MemberFacts K L D)
      → IsRun same elect m steps replied n → (more : List (StepFacts K L D × ReplyFacts K D))
      × (map (λ e. e.0) more ≡ steps) × (map (λ e. e.1) more ≡ replied)
  paired [] [] m n run = ([], refl, refl)
  paired [] (t ∷ replied) m n run = absurd run
  paired (s ∷ steps) [] m n run = absurd run
  paired (s ∷ steps) (t ∷ replied) m n (next, is_step, run) =
      let rest = paired steps replied next n run in
      ((s, t) ∷ rest.0, ap (λ ss. s ∷ ss) rest.1, ap (λ ts. t ∷ ts) rest.2)

  -- the execution with these calls, each beside its reply
  abbrev pub and_calls : Execution K L D → List (CallFacts D) → List (ReplyFacts K D) → Execution K L D
  and_calls s calls replies = record s { steps = s.steps ++ map Calls calls; replies = s.replies ++ replies }

  module _ (term_length i : ℕ) (s : Execution K L D) (m end : MemberFacts K L D) (calls : List (CallFacts D))
      (replies : List (ReplyFacts K D)) (run : IsRun same elect (new_member same elect s.start) s.steps s.replies m)
      (goes : IsRun same elect m (map Calls calls) replies end) where
    pub calls_go_on : ExecutionContinues s (and_calls s calls replies)
    calls_go_on =
        let pairs = paired (map Calls calls) replies m end goes in
        (pairs.0, λ j. record s { steps = s.steps ++ sym pairs.1 j; replies = s.replies ++ sym pairs.2 j })

    pub calls_run : IsRun same elect (new_member same elect s.start) (s.steps ++ map Calls calls) (s.replies ++ replies)
        end
    calls_run = run_joined s.steps (map Calls calls) s.replies replies (new_member same elect s.start) m end run goes

    pub calls_ran : IsExecution same elect term_length i s
        → IsExecution same elect term_length i (and_calls s calls replies)
    unfolding IsRunFrom
    calls_ran ran = record {
      lives = record {
        first = ran.lives.first;
        later = λ r h. elim (Contains-append_cases s.steps (map Calls calls) (Restarts r) h)
            [ inl old ↦ ran.lives.later r old | inr new ↦ absurd (only_calls calls r new) ];
      };
      run = (ran.run.0, end, calls_run);
    }

    pub calls_trace : trace_of (and_calls s calls replies) ≡ trace_of s ++ trace_of_steps {L = L} (map Calls calls)
        replies
    calls_trace =
        ap (λ ds. of_floor s.start.floor ++ ds)
        (traces_joined s.steps (map Calls calls) s.replies replies (new_member same elect s.start) m run)
        ∙ sym (append_assoc (of_floor s.start.floor) (trace_of_steps s.steps s.replies)
        (trace_of_steps {L = L} (map Calls calls) replies))

  -- the execution with these calls
  pub record Onward (term_length i : ℕ) (s : Execution K L D) (calls : List (CallFacts D))
      (done : List (TraceEvent D)) : Type 0 where
    pub execution : Execution K L D
    pub continues : ExecutionContinues s execution
    pub ran : IsExecution same elect term_length i execution
    pub steps : execution.steps ≡ s.steps ++ map Calls calls
    pub trace : trace_of execution ≡ trace_of s ++ done

  pub execution_on : (term_length i : ℕ) (s : Execution K L D) (m : MemberFacts K L D) (calls : List (CallFacts D))
      (done : List (TraceEvent D)) → IsExecution same elect term_length i s
      → IsRun same elect (new_member same elect s.start) s.steps s.replies m → Does same elect m (map Calls calls) done
      → Onward term_length i s calls done
  execution_on term_length i s m calls done ran run does = record {
    execution = and_calls s calls does.replies;
    continues = calls_go_on term_length i s m does.end calls does.replies run does.run;
    ran = calls_ran term_length i s m does.end calls does.replies run does.run ran;
    steps = refl;
    trace = calls_trace term_length i s m does.end calls does.replies run does.run
        ∙ ap (λ ds. trace_of s ++ ds) does.does;
  }
