-- The engine continues from a moment that has come.
use Rattle.std.proofs.Common.{refl, ap, ◌∙◌}
use Rattle.engine_outbox.proofs.Continuity.{stays}
use Rattle.simplex_engine.proofs.OwnSteps.{forgets_further}
use Rattle.simplex_engine.proofs.UnfinishedWork.{tells_further, tells_planned}
use Rattle.engine_planner.proofs.PlannedWork.{among_all, plans_begun}
use Rattle.engine_planner.proofs.PlanStates.{on_ok, on_ok_both}
use Rattle.engine_planner.specs.Causes.{planned_causes}
use Rattle.simplex_engine.proofs.Provenance.{comes_later, comes_same, hand_alone}
use Rattle.simplex_engine.proofs.NoMissingCertificates.{forgets_no_lack}
use Rattle.engine_planner.specs.FetchRequests.{asks}
use Rattle.engine_planner.proofs.AskedFetches.{asks_none_still}
use Rattle.engine_planner.proofs.AskedSteps.{keeps_asking}
use Rattle.simplex_engine.specs.Provenance.{is_final}
use Rattle.simplex_engine.proofs.engine.Engine.work.Goals as goal

pub returns : goal.returns
returns g c = record {
  alone = forgets_further (record { continues = stays c.args.self.now.core; batcher = refl }) c.finish.ensures.alone;
  settled = c.finish.ensures.settled;
  short = c.finish.ensures.short;
  due_work = on_ok c.finish.result c.finish.ensures.due_work
      (tells_further (tells_planned c.args.self.now (record c.args.self.now { plan = c.begin.new.self }) refl
      (plans_begun c.args.self.now.plan c.begin.new.self c.begin.ensures)));
  provenance = on_ok_both c.finish.result c.finish.ensures.due_work c.finish.ensures.provenance
      (λ due_work provenance. comes_later (forgets_no_lack _ _ _ c.finish.new.self.core.member.facts)
      (comes_same refl (hand_alone c.args.self.now (record c.args.self.now { plan = c.begin.new.self }) refl
      (among_all (ap planned_causes c.begin.ensures)))
      (keeps_asking (λ kind view. is_final c.args.self.now.core.member.facts view)
      (ap (λ plan. plan.repair.resolver) c.begin.ensures)
      (λ kind view asked un. ap (λ plan. asks plan kind view) c.begin.ensures ∙ asked)
      (asks_none_still (ap (λ plan. plan.repair.fetches) c.begin.ensures))))
      due_work.risen due_work.works provenance);
}
