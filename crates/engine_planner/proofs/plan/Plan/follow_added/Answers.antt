-- That two proposals of a leader are shown first.
use Rattle.std.proofs.Common.{subst, ap}
use Rattle.std.specs.Prelude.{IfErr}
use Rattle.simplex_resolver.specs.Steps.{highest_view}
use Rattle.engine_fetches.specs.Repairs.{IsUnrepaired}
use Rattle.engine_planner.specs.Consequences.{showing}
use Rattle.engine_planner.specs.PlanStates.{HasPlanned}
use Rattle.engine_planner.proofs.PlanStates.{on_ok}
use Rattle.engine_planner.proofs.plan.Plan.follow_added.Goals as goal

pub returns : goal.returns
returns g c = record {
  followed = on_ok c.follow_new.result c.follow_new.ensures.followed
      (λ followed. record {
        shown = c.report_equivocation.new.self;
        is_shown = subst (λ v. HasPlanned (showing v c.args.equivocator) c.args.self.now c.report_equivocation.new.self)
            c.view.ensures c.in_ok-report_equivocation.ensures;
        followed = followed;
      });
  refused = subst (λ repair. IfErr c.follow_new.result
      (λ fault. IsUnrepaired (highest_view c.args.certificate.now) fault repair c.follow_new.new.self.repair))
      (ap (λ plan. plan.repair) c.in_ok-report_equivocation.ensures.same) c.follow_new.ensures.refused;
}
