-- What the run of a member shows of the state at its end.
use Rattle.std.proofs.Common.{◌≡◌, refl, subst, inl, inr, ℕ, ◌≤◌, Bool, true, false, List, [], ◌∷◌, Contains, arith}
use Rattle.std.proofs.lemmas.Bool.{cases_Bool}
use Rattle.simplex_round.specs.Round.{is_finalize}
use Rattle.simplex_voter.specs.Facts.{StateFacts, Elect, round_of}
use Rattle.simplex_member.specs.MemberFacts.{MemberFacts}
use Rattle.simplex_member.specs.Runs.{StepFacts, Calls, Prunes, Restarts}
use Rattle.laws_safety.specs.Traces.{of_floor}
use Rattle.laws_safety.specs.Executions.{new_member, Execution, trace_of, BeginsAs, IsExecution}
use Rattle.laws_safety.specs.TermLengths.{KeepTerms}
use Rattle.laws_safety.proofs.frames.RunsKeep.{HoldsIn, run_induction}
use Rattle.laws_safety.proofs.lists.Splits.{Contains-cons_rest}
use Rattle.laws_safety.proofs.lives.ViewTimeouts.{TimesOut, floor_times_out, event_times_out}
use Rattle.laws_safety.proofs.records.NewLives.{Living}
use Rattle.laws_safety.proofs.records.RunsLawful.{LivesOn, run_lives, start_lives}
use Rattle.laws_progress.proofs.runs.Owned.{Owns, event_owns, floor_owns}
use Rattle.laws_progress.specs.NetworkStates.{RunsWith}

-- the lifetimes of a member of a network share a length of terms
pub terms_kept : {K L D : Type 0} (term_length i : ℕ) (steps : List (StepFacts K L D))
    → ((r : _) → Contains steps (Restarts r) → BeginsAs term_length i r.start.setup) → KeepTerms term_length steps
terms_kept term_length i [] later = tt
terms_kept term_length i (Calls call ∷ steps) later =
    terms_kept term_length i steps (λ r h. later r (Contains-cons_rest (Calls call) steps (Restarts r) h))
terms_kept term_length i (Prunes ∷ steps) later =
    terms_kept term_length i steps (λ r h. later r (Contains-cons_rest Prunes steps (Restarts r) h))
terms_kept term_length i (Restarts q ∷ steps) later = (
  (later q (0, omega arith, refl)).terms,
  terms_kept term_length i steps (λ r h. later r (Contains-cons_rest (Restarts q) steps (Restarts r) h)),
)

-- what the run shows of a state at its end
pub record Shown {K L D : Type 0} (term_length : ℕ) (s : Execution K L D) (m : MemberFacts K L D)
    (x : StateFacts K L D) : Type 0 where
  pub owns : Owns x
  pub times_out : TimesOut x
  pub kept : ℕ
  pub living : Living term_length (trace_of s) m.closed kept m.entries m.outstanding_work x

module _ {K L D : Type 0} (same : D → D → Bool) (decides : (d e : D) → same d e ≡ true → d ≡ e) (elect : Elect L)
    (term_length i : ℕ) (s : Execution K L D) (ran : IsExecution same elect term_length i s) where
  pub end_shown : (x : StateFacts K L D) (lives : RunsWith same elect s x) → Shown term_length s lives.0 x
  end_shown x (m, run, alive) =
      let begins = ran.lives.first.terms in
      let keep = terms_kept term_length i s.steps ran.lives.later in
      let held = run_lives same decides elect term_length begins.some s.steps s.replies (of_floor s.start.floor)
      (new_member same elect s.start) m keep (start_lives same decides elect term_length s.start begins) run in
      let owned = run_induction same elect term_length Owns (floor_owns same elect term_length)
      (λ y e. event_owns same elect y e) s.start s.steps s.replies m begins keep run in
      let timed = run_induction same elect term_length TimesOut (floor_times_out same elect term_length)
      (λ y e. event_times_out same elect y e) s.start s.steps s.replies m begins keep run in
      record {
        owns = subst (HoldsIn Owns) alive owned;
        times_out = subst (HoldsIn TimesOut) alive timed;
        kept = held.0;
        living = subst (λ life. LivesOn term_length (trace_of s) m.closed held.0 m.entries m.outstanding_work life)
            alive held.1;
      }

  -- no view from the current one on is decided to be finalized
  pub none_decided : (x : StateFacts K L D) → RunsWith same elect s x → (v : ℕ) → x.current ≤ v
      → is_finalize (round_of x v).decision ≡ false
  none_decided x lives v from = elim (cases_Bool (is_finalize (round_of x v).decision)) [
    | inl is ↦ absurd
        (let below = ((end_shown x lives).living.keeps.stays.stands.rounds v).left is in omega (arith, below, from))
    | inr is ↦ is
  ]
