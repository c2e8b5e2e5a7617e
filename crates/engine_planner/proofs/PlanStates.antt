-- Plans in which a block is no longer needed.
use Rattle.std.proofs.Common.{◌≡◌, ap, sym, ◌∙◌, ℕ, Bool, [], ◌∷◌, ◌++◌, length, length-append, arith, Result, Ok, Err, OnOk}
use Rattle.std.specs.List.{list_any}
use Rattle.engine_planner.specs.declared.plan.Plan.{Plan}
use Rattle.engine_planner.specs.declared.plan.Step.{Step}
use Rattle.engine_planner.specs.Blocks.{is_asked_at}
use Rattle.engine_planner.specs.BuildPlans.{stopping, IsEnded, IsStopped}
use Rattle.engine_planner.specs.PlanStates.{HasPlanned}

pub on_ok : {X E : Type 0} (r : Result X E) {P Q : Type 0} → OnOk r P → (P → Q) → OnOk r Q
on_ok (Ok x) holds more = more holds
on_ok (Err e) holds more = tt

pub on_ok_both : {X E : Type 0} (r : Result X E) {P Q R : Type 0} → OnOk r P → OnOk r Q → (P → Q → R) → OnOk r R
on_ok_both (Ok x) first second more = more first second
on_ok_both (Err e) first second more = tt

module _ {S D K G C : Type 0} where
  -- the blocks are ended, and then that is reported
  pub stopped : (view : ℕ) (is_reported : Bool) (old mid new : Plan S D K G C)
      → is_reported ≡ list_any (is_asked_at view) old.builds.buildings.items → IsEnded view old mid
      → HasPlanned (stopping view is_reported) mid new → IsStopped view old new
  stopped view is_reported old mid new replied ended planned = record {
    steps = planned.steps ∙ ap (λ (p : Plan S D K G C). p.steps.items ++ stopping view is_reported) ended.same
        ∙ ap (λ b. old.steps.items ++ stopping view b) replied;
    blocks = ap (λ (p : Plan S D K G C). p.builds.buildings.items) planned.same ∙ ended.blocks;
    same = planned.same ∙ ap (λ (p : Plan S D K G C). record p { steps = new.steps }) ended.same
        ∙ ap (λ b. record old { steps = new.steps; builds = b })
        (sym (ap (λ (p : Plan S D K G C). p.builds) planned.same));
  }

  -- a step that is planned is queued
  pub some_planned : {step : Step S D K G C} {old new : Plan S D K G C} → HasPlanned (step ∷ []) old new
      → new.steps.items ≡ [] → ⊥
  some_planned {step = step} {old = old} planned none =
      omega (arith, ap length (sym none ∙ planned.steps), length-append old.steps.items (step ∷ []))
