-- That the step which is next is taken.
use Rattle.std.proofs.Common.{◌≡◌, ◌++◌, [], Some, None, true, false, refl, subst}
use Rattle.std.specs.Prelude.{option_to_list}
use Rattle.engine_planner.specs.StepSelection.{HasTaken}
use Rattle.engine_planner.specs.PlannedWork.{AreAmong, IsPlanned, beside_of, work_planned}
use Rattle.engine_planner.proofs.StepSelection.{taken_keeps}
use Rattle.engine_outbox.proofs.Continuity.{stays}
use Rattle.simplex_engine.proofs.UnfinishedWork.{tells_planned, tells_taken}
use Rattle.engine_planner.specs.Causes.{is_request, of_steps, planned_causes, unrequested}
use Rattle.engine_planner.proofs.TakenSteps.{taken_alone, taken_sought}
use Rattle.engine_planner.proofs.PlanStates.{on_ok, on_ok_both}
use Rattle.simplex_engine.proofs.FetchCauses.{asks_none}
use Rattle.simplex_engine.proofs.Provenance.{comes_seeking, comes_taken, hand_sought, taken_hand, taken_hand_of, taken_sought_of}
use Rattle.engine_planner.specs.AskedFetches.{AsksWhoseTurn}
use Rattle.engine_planner.specs.FetchRequests.{never, IsSought}
use Rattle.engine_fetches.specs.declared.fetches.Ask.{Ask}
use Rattle.engine_fetches.specs.Fetches.{is_fetch_open}
use Rattle.std.specs.List.{list_any}
use Rattle.engine_planner.proofs.AskedFetches.{asked_taken, taken_asks_none}
use Rattle.engine_planner.proofs.AskedSteps.{taken_asks, AsksOn}
use Rattle.simplex_engine.proofs.engine.Engine.step.Goals as goal

pub returns-in_err-step-clause-alone : goal.returns-in_err-step-clause-alone
returns-in_err-step-clause-alone g c = record { continues = stays c.args.self.now.core; batcher = refl }

pub returns-in-Some : goal.returns-in-Some
returns-in-Some g c = record {
  done = on_ok c.take_step.result c.take_step.ensures.done (λ done. record {
    next = Some c.in-Some.step;
    left = c.next.new.self;
    is_next = subst (λ next. HasTaken c.args.now next c.args.self.now.plan c.next.new.self) c.in-Some.is
        c.in_ok-step.ensures;
    taken = done;
  });
  alone = record { continues = c.take_step.ensures.alone.continues; batcher = c.take_step.ensures.alone.batcher };
  due_work = tells_taken c.take_step.result c.in-Some.step c.args.self.now
      (record c.args.self.now { plan = c.next.new.self }) c.take_step.new.self refl
      (subst (λ taken. IsPlanned [] (λ view. false) (work_planned c.args.self.now.plan.steps.items)
      (beside_of c.args.self.now.plan)
      (work_planned (option_to_list taken ++ c.next.new.self.steps.items)) (beside_of c.next.new.self)) c.in-Some.is
      (taken_keeps c.args.now c.in_ok-step.field-0 c.args.self.now.plan c.next.new.self c.in_ok-step.ensures))
      c.take_step.ensures.due_work;
  provenance = on_ok_both c.take_step.result c.take_step.ensures.due_work c.take_step.ensures.provenance
      (λ due_work provenance. comes_taken c.in-Some.step refl
      (taken_hand c.in-Some.step c.args.self.now (record c.args.self.now { plan = c.next.new.self }) refl
      (subst (λ taken. AreAmong (unrequested (of_steps (option_to_list taken) ++ planned_causes c.next.new.self))
      (planned_causes c.args.self.now.plan)) c.in-Some.is
      (taken_alone c.args.now c.in_ok-step.field-0 c.args.self.now.plan c.next.new.self c.in_ok-step.ensures)))
      (hand_sought c.in-Some.step c.args.self.now (record c.args.self.now { plan = c.next.new.self }) refl
      (subst (λ taken. (ask : Ask)
      → list_any (is_request ask) (of_steps (option_to_list taken) ++ planned_causes c.next.new.self) ≡ true
      → IsSought (planned_causes c.args.self.now.plan)
      (λ kind view. is_fetch_open kind view c.next.new.self.repair.fetches.wanted.items) never ask) c.in-Some.is
      (taken_sought c.args.now c.in_ok-step.field-0 c.args.self.now.plan c.next.new.self c.in_ok-step.ensures)))
      (subst (λ taken. AsksOn (option_to_list taken) c.args.self.now.plan c.next.new.self) c.in-Some.is
      (taken_asks c.args.now c.in_ok-step.field-0 c.args.self.now.plan c.next.new.self c.in_ok-step.ensures))
      (subst (λ taken. AsksWhoseTurn c.args.now never
      (work_planned (option_to_list taken ++ c.next.new.self.steps.items))
      c.args.self.now.plan.repair.fetches c.next.new.self.repair.fetches) c.in-Some.is
      (asked_taken c.args.now c.in_ok-step.field-0 c.args.self.now.plan c.next.new.self c.in_ok-step.ensures))
      due_work.works provenance);
}

pub returns-in-None : goal.returns-in-None
returns-in-None g c = record {
  done = record {
    next = None;
    left = c.next.new.self;
    is_next = subst (λ next. HasTaken c.args.now next c.args.self.now.plan c.next.new.self) c.in-None.is
        c.in_ok-step.ensures;
    taken = refl;
  };
  alone = record { continues = stays c.args.self.now.core; batcher = refl };
  due_work = tells_planned c.args.self.now (record c.args.self.now { plan = c.next.new.self }) refl
      (subst (λ taken. IsPlanned [] (λ view. false) (work_planned c.args.self.now.plan.steps.items)
      (beside_of c.args.self.now.plan)
      (work_planned (option_to_list taken ++ c.next.new.self.steps.items)) (beside_of c.next.new.self)) c.in-None.is
      (taken_keeps c.args.now c.in_ok-step.field-0 c.args.self.now.plan c.next.new.self c.in_ok-step.ensures));
  provenance = comes_seeking refl
      (taken_hand_of c.args.self.now (record c.args.self.now { plan = c.next.new.self }) [] refl
      (subst (λ taken. AreAmong (unrequested (of_steps (option_to_list taken) ++ planned_causes c.next.new.self))
      (planned_causes c.args.self.now.plan)) c.in-None.is
      (taken_alone c.args.now c.in_ok-step.field-0 c.args.self.now.plan c.next.new.self c.in_ok-step.ensures)))
      (taken_sought_of c.args.self.now (record c.args.self.now { plan = c.next.new.self }) [] refl
      (subst (λ taken. (ask : Ask)
      → list_any (is_request ask) (of_steps (option_to_list taken) ++ planned_causes c.next.new.self) ≡ true
      → IsSought (planned_causes c.args.self.now.plan)
      (λ kind view. is_fetch_open kind view c.next.new.self.repair.fetches.wanted.items) never ask) c.in-None.is
      (taken_sought c.args.now c.in_ok-step.field-0 c.args.self.now.plan c.next.new.self c.in_ok-step.ensures)))
      (asks_none (subst (λ taken. AsksOn (option_to_list taken) c.args.self.now.plan c.next.new.self) c.in-None.is
      (taken_asks c.args.now c.in_ok-step.field-0 c.args.self.now.plan c.next.new.self c.in_ok-step.ensures))
      (taken_asks_none c.args.now c.args.self.now.plan c.next.new.self
      (subst (λ next. HasTaken c.args.now next c.args.self.now.plan c.next.new.self) c.in-None.is
      c.in_ok-step.ensures)));
}
