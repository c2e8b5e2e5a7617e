-- That a verdict is passed on just where the member offered the proposal.
use Rattle.std.proofs.Common.{refl, sym, ◌∙◌, inl, [], ◌∷◌}
use Rattle.std.proofs.lemmas.Bool.{false≢true}
use Rattle.engine_outbox.proofs.Continuity.{stays}
use Rattle.simplex_engine.proofs.UnfinishedWork.{tells_still}
use Rattle.engine_planner.specs.declared.task.Task.TheVariants as task
use Rattle.engine_planner.specs.Causes.{Message}
use Rattle.engine_planner.proofs.Causes.{among_last}
use Rattle.engine_planner.proofs.PlannedWork.{among_more}
use Rattle.engine_planner.proofs.PlanStates.{on_ok}
use Rattle.simplex_engine.specs.Provenance.{pending_causes}
use Rattle.simplex_engine.proofs.Provenance.{comes_still}
use Rattle.simplex_engine.proofs.engine.Engine.judge.Goals as goal

pub returns-then-not-awaits_verdict : goal.returns-then-not-awaits_verdict
returns-then-not-awaits_verdict g c = record {
  continues = stays c.args.self.now.core;
  batcher = refl;
  unadmitted = λ _. (refl, refl);
  acted = λ is. absurd (false≢true (sym c.if-not-awaits_verdict.true ∙ c.awaits_verdict.ensures ∙ is));
  due_work = tells_still c.args.self.now;
  provenance = comes_still refl refl (λ kind view. refl)
      (among_last (Message (task.Certified c.args.view c.args.is_success) ∷ []) (pending_causes c.args.self.now));
}

pub returns : goal.returns
returns g c =
    let asked = task.Certified c.args.view c.args.is_success in
    record {
      continues = c.ask.ensures.continues;
      batcher = c.ask.ensures.batcher;
      unadmitted = λ no. absurd (false≢true (sym no ∙ sym c.awaits_verdict.ensures ∙ c.if-not-awaits_verdict.false));
      acted = λ _. c.ask.ensures.acted;
      due_work = c.ask.ensures.due_work;
      provenance = on_ok c.ask.result c.ask.ensures.provenance
          (λ provenance. provenance (Message asked ∷ []) (λ kind view. refl)
          (inl (
            asked,
            refl,
            among_more (Message asked ∷ []) (pending_causes c.args.self.now),
            sym c.awaits_verdict.ensures ∙ c.if-not-awaits_verdict.false,
          )));
    }
