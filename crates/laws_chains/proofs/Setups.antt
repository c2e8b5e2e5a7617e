-- What the set-up of each lifetime of a run begins with, and each event preserves, is true of each state of the run.
use Rattle.std.proofs.Common.{◌≡◌, refl, ap, ◌∙◌, sym, subst, ℕ, inl, inr, Bool, true, false, List, [], ◌∷◌, Contains, Option, Some, None, Result, Ok, Err, arith}
use Rattle.std.specs.Prelude.{MatchOption}
use Rattle.simplex_voter.specs.Facts.{StateFacts, Elect}
use Rattle.simplex_record.specs.declared.record.error.RecoverError.{RecoverError}
use Rattle.simplex_record.specs.Events.{Event, SetFloor, after_event}
use Rattle.simplex_record.specs.Recovery.{recover_error}
use Rattle.simplex_record.specs.Start.{StartFacts, new_state}
use Rattle.simplex_member.specs.Calls.{CallFacts, ReplyFacts}
use Rattle.simplex_member.specs.MemberFacts.{MemberFacts, IsCall, without_lifetime}
use Rattle.simplex_member.specs.Restarts.{RestartFacts, cut_member, new_lifetime, retention_grows, RecoversByView, IsRestart, IsRestartWhere}
use Rattle.simplex_member.specs.Runs.{StepFacts, Calls, Prunes, Restarts, IsRun}
use Rattle.simplex_member.proofs.EventsMake.{call_by_any}
use Rattle.laws_safety.specs.Executions.{new_member, Execution}
use Rattle.laws_safety.proofs.frames.CallsMake.{recovered_keeps}
use Rattle.laws_safety.proofs.frames.NoLowerViews.{event_goes}
use Rattle.laws_safety.proofs.frames.RunsKeep.{HoldsIn}
use Rattle.laws_safety.proofs.lists.Splits.{Contains-cons_rest}
use Rattle.laws_safety.proofs.lives.WithinLives.{call_outcome}
use Rattle.laws_progress.specs.NetworkStates.{RunsWith}

module _ {K L D : Type 0} (same : D → D → Bool) (elect : Elect L) (P : StateFacts K L D → Type 0)
    (keeps : (x : StateFacts K L D) (e : Event K D) → P x → P (after_event same elect x e)) where
  from_copy : (n : MemberFacts K L D) (start : StartFacts K L D) (result : Result (Unit {0}) RecoverError)
      (left : MemberFacts K L D) → P (new_state start.setup) → RecoversByView same elect n start result left
      → HoldsIn P left.life
  from_copy n start result left begun (inl (is, leaves)) = rw leaves tt
  from_copy n start result left begun (inr (copy, by_view, goes)) =
      by_error (recover_error same (new_state start.setup) start.floor start.now copy) goes
    where
      by_error : (o : Option RecoverError) → MatchOption o
          ((result ≡ Ok tt) × (left ≡ new_lifetime same elect n start copy))
          (λ e. (result ≡ Err e) × (left ≡ without_lifetime n)) → HoldsIn P left.life
      by_error None (_, leaves) =
          rw leaves (recovered_keeps same elect P keeps start.now (new_state start.setup) start.floor copy begun)
      by_error (Some e) (_, leaves) = rw leaves tt

  restart_keeps : (m : MemberFacts K L D) (r : RestartFacts K L D) (result : Result (Unit {0}) RecoverError)
      (left : MemberFacts K L D) → P (new_state r.start.setup) → HoldsIn P m.life → IsRestart same elect m r result left
      → HoldsIn P left.life
  unfolding IsRestart
  restart_keeps m r result left begun holds restarts =
      by_test (retention_grows m r.prune r.start.setup.settings.view_retention) restarts
    where
      by_test : (b : Bool) → IsRestartWhere same elect b m r result left → HoldsIn P left.life
      by_test true (_, leaves) = rw leaves holds
      by_test false goes = from_copy (cut_member m r.drop r.prune) r.start result left begun goes

  replied_keeps : (m : MemberFacts K L D) (call : CallFacts D) (replied : ReplyFacts K D) (left : MemberFacts K L D)
      → IsCall same elect m call replied left → HoldsIn P m.life → HoldsIn P left.life
  replied_keeps m call replied left is_step holds =
      elim (call_outcome same elect (λ c t x y. P x → P y) (λ c f x s. s) (λ c x s. s)
      (λ c x o allowed s. call_by_any same elect x o P s (λ e. keeps x e s) c) m call replied left is_step) [
        | inl (fault, tells, dies) ↦ subst (HoldsIn P) (sym dies) tt
        | inr (x, y, alive, lives, leads) ↦ subst (HoldsIn P) (sym lives) (leads (subst (HoldsIn P) alive holds))
      ]

  run_keeps : (steps : List (StepFacts K L D)) (replies : List (ReplyFacts K D)) (m end : MemberFacts K L D)
      → ((r : RestartFacts K L D) → Contains steps (Restarts r) → P (new_state r.start.setup)) → HoldsIn P m.life
      → IsRun same elect m steps replies end → HoldsIn P end.life
  run_keeps [] [] m end later holds run = subst (λ n. HoldsIn P n.life) run holds
  run_keeps [] (replied ∷ replies) m end later holds run = absurd run
  run_keeps (step ∷ steps) [] m end later holds run = absurd run
  run_keeps (Calls call ∷ steps) (replied ∷ replies) m end later holds (next, is_step, rest) =
      run_keeps steps replies next end (λ r h. later r (Contains-cons_rest (Calls call) steps (Restarts r) h))
      (replied_keeps m call replied next is_step holds) rest
  run_keeps (Prunes ∷ steps) (replied ∷ replies) m end later holds (next, (tells, leaves), rest) =
      run_keeps steps replies next end (λ r h. later r (Contains-cons_rest Prunes steps (Restarts r) h))
      (rw leaves holds) rest
  run_keeps (Restarts q ∷ steps) (replied ∷ replies) m end later holds (next, is_step, rest) =
      run_keeps steps replies next end (λ r h. later r (Contains-cons_rest (Restarts q) steps (Restarts r) h))
      (restart_keeps m q is_step.0 next (later q (0, omega arith, refl)) holds is_step.1) rest

  -- of a state that an execution has
  pub state_kept : (s : Execution K L D) (x : StateFacts K L D) → RunsWith same elect s x → P (new_state s.start.setup)
      → ((r : RestartFacts K L D) → Contains s.steps (Restarts r) → P (new_state r.start.setup)) → P x
  state_kept s x (m, run, alive) first later =
      subst (HoldsIn P) alive (run_keeps s.steps s.replies (new_member same elect s.start) m later
      (keeps (new_state s.start.setup) (SetFloor s.start.floor s.start.now) first) run)

-- the set-up of the lifetime stays
module _ {K L D : Type 0} (same : D → D → Bool) (elect : Elect L) (x : StateFacts K L D) (e : Event K D) where
  pub early_kept : x.elects_early ≡ false → (after_event same elect x e).elects_early ≡ false
  early_kept is = (event_goes same elect x e).elects_early ∙ is

  pub alike_kept : (elector : L) (epoch : ℕ) → (x.elector ≡ elector) × (x.settings.epoch ≡ epoch)
      → ((after_event same elect x e).elector ≡ elector) × ((after_event same elect x e).settings.epoch ≡ epoch)
  alike_kept elector epoch (by, of) =
      ((event_goes same elect x e).elector ∙ by, ap (λ t. t.epoch) (event_goes same elect x e).settings ∙ of)

  pub ahead_kept : x.terms.optimistic_views ≡ 0 → (after_event same elect x e).terms.optimistic_views ≡ 0
  ahead_kept is = ap (λ t. t.optimistic_views) (event_goes same elect x e).terms ∙ is
