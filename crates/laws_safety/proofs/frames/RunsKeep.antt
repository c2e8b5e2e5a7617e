-- An invariant that a floor sets up in a new state and each event keeps holds of each state of a run.
use Rattle.std.proofs.Common.{◌≡◌, sym, subst, ℕ, inl, inr, Bool, true, false, List, [], ◌∷◌, Option, Some, None, Result, Ok, Err}
use Rattle.std.specs.Prelude.{MatchOption}
use Rattle.simplex_types.specs.Config.{FloorFacts}
use Rattle.simplex_voter.specs.Facts.{StateFacts, Elect}
use Rattle.simplex_voter.specs.Acceptance.{after_set_floor}
use Rattle.simplex_record.specs.declared.record.error.RecoverError.{RecoverError}
use Rattle.simplex_member.specs.Calls.{CallFacts, ReplyFacts}
use Rattle.laws_safety.specs.Executions.{new_member}
use Rattle.simplex_record.specs.Events.{Event, after_event}
use Rattle.simplex_member.specs.MemberFacts.{MemberFacts, IsCall, without_lifetime}
use Rattle.simplex_record.specs.Recovery.{recover_error}
use Rattle.simplex_member.specs.Restarts.{RestartFacts, cut_member, new_lifetime, retention_grows, RecoversByView, IsRestart, IsRestartWhere}
use Rattle.simplex_member.specs.Runs.{StepFacts, Calls, Prunes, Restarts, IsRun}
use Rattle.simplex_record.specs.Start.{StartFacts, new_state}
use Rattle.laws_safety.specs.TermLengths.{HasTerms, KeepTerms}
use Rattle.laws_safety.proofs.frames.Fresh.{IsNewState, fresh_state}
use Rattle.simplex_member.proofs.EventsMake.{call_by_any}
use Rattle.laws_safety.proofs.frames.CallsMake.{floor_then_all_keep}
use Rattle.laws_safety.proofs.lives.WithinLives.{call_outcome}

-- while the member has not failed
abbrev pub HoldsIn : {K L D : Type 0} → (StateFacts K L D → Type 0) → Option (StateFacts K L D) → Type 0
HoldsIn P None = Unit {0}
HoldsIn P (Some x) = P x

module _ {K L D : Type 0} (same : D → D → Bool) (elect : Elect L) (term_length : ℕ) (P : StateFacts K L D → Type 0)
    (begins : (x : StateFacts K L D) (floor : FloorFacts D) (now : ℕ) → IsNewState term_length x
    → P (after_set_floor same elect x floor now))
    (keeps : (x : StateFacts K L D) (e : Event K D) → P x → P (after_event same elect x e)) where
  -- a restart that succeeds makes the state again, and a refused one leaves no state
  from_copy : (n : MemberFacts K L D) (start : StartFacts K L D) (result : Result (Unit {0}) RecoverError)
      (left : MemberFacts K L D) → HasTerms term_length start.setup → RecoversByView same elect n start result left
      → HoldsIn P left.life
  from_copy n start result left fresh (inl (is, leaves)) = rw leaves tt
  from_copy n start result left fresh (inr (copy, by_view, goes)) =
      by_error (recover_error same (new_state start.setup) start.floor start.now copy) goes
    where
      by_error : (o : Option RecoverError) → MatchOption o
          ((result ≡ Ok tt) × (left ≡ new_lifetime same elect n start copy))
          (λ e. (result ≡ Err e) × (left ≡ without_lifetime n)) → HoldsIn P left.life
      by_error None (_, leaves) = rw leaves (floor_then_all_keep same elect P keeps start.now (new_state start.setup)
          start.floor copy
          (begins (new_state start.setup) start.floor start.now (fresh_state term_length start.setup fresh)))
      by_error (Some e) (_, leaves) = rw leaves tt

  pub restart_keeps : (m : MemberFacts K L D) (r : RestartFacts K L D) (result : Result (Unit {0}) RecoverError)
      (left : MemberFacts K L D) → HasTerms term_length r.start.setup → HoldsIn P m.life
      → IsRestart same elect m r result left → HoldsIn P left.life
  unfolding IsRestart
  restart_keeps m r result left fresh sound restarts =
      by_test (retention_grows m r.prune r.start.setup.settings.view_retention) restarts
    where
      by_test : (b : Bool) → IsRestartWhere same elect b m r result left → HoldsIn P left.life
      by_test true (_, leaves) = rw leaves sound
      by_test false goes = from_copy (cut_member m r.drop r.prune) r.start result left fresh goes

  pub replied_keeps : (m : MemberFacts K L D) (call : CallFacts D) (replied : ReplyFacts K D) (left : MemberFacts K L D)
      → IsCall same elect m call replied left → HoldsIn P m.life → HoldsIn P left.life
  replied_keeps m call replied left is_step sound =
      elim (call_outcome same elect (λ c t x y. P x → P y) (λ c f x s. s) (λ c x s. s)
      (λ c x o allowed s. call_by_any same elect x o P s (λ e. keeps x e s) c) m call replied left is_step) [
        | inl (fault, tells, dies) ↦ subst (HoldsIn P) (sym dies) tt
        | inr (x, y, alive, lives, leads) ↦ subst (HoldsIn P) (sym lives) (leads (subst (HoldsIn P) alive sound))
      ]

  -- from a member with the invariant on, over calls and restarts
  pub run_keeps : (steps : List (StepFacts K L D)) (replies : List (ReplyFacts K D)) (m end : MemberFacts K L D)
      → KeepTerms term_length steps → HoldsIn P m.life → IsRun same elect m steps replies end → HoldsIn P end.life
  run_keeps [] [] m end fresh sound run = subst (λ n. HoldsIn P n.life) run sound
  run_keeps [] (replied ∷ replies) m end fresh sound run = absurd run
  run_keeps (step ∷ steps) [] m end fresh sound run = absurd run
  run_keeps (Calls call ∷ steps) (replied ∷ replies) m end fresh sound (next, is_step, rest) =
      run_keeps steps replies next end fresh (replied_keeps m call replied next is_step sound) rest
  run_keeps (Prunes ∷ steps) (replied ∷ replies) m end fresh sound (next, (tells, leaves), rest) =
      run_keeps steps replies next end fresh (rw leaves sound) rest
  run_keeps (Restarts r ∷ steps) (replied ∷ replies) m end fresh sound (next, is_step, rest) =
      run_keeps steps replies next end fresh.1 (restart_keeps m r is_step.0 next fresh.0 sound is_step.1) rest

  -- from the start of a run on
  pub run_induction : (start : StartFacts K L D) (steps : List (StepFacts K L D)) (replies : List (ReplyFacts K D))
      (end : MemberFacts K L D) → HasTerms term_length start.setup → KeepTerms term_length steps
      → IsRun same elect (new_member same elect start) steps replies end → HoldsIn P end.life
  run_induction start steps replies end begun fresh run =
      run_keeps steps replies (new_member same elect start) end fresh
      (begins (new_state start.setup) start.floor start.now (fresh_state term_length start.setup begun)) run
