-- The view is touched, and what waited for it comes after that.
use Rattle.engine_planner.proofs.ViewChanges.{entered}
use Rattle.engine_planner.proofs.PlanStates.{on_ok_both}
use Rattle.engine_planner.proofs.plan.Plan.enter.Goals as goal

pub returns : goal.returns
returns g c =
    on_ok_both c.offer_early.result c.offer_early.ensures.steps c.offer_early.ensures.early
    (λ steps early. entered c.args.view c.args.self.now c.touch.new.self c.build_waiting.new.self c.offer_early.new.self
    c.in_ok-touch.ensures c.in_ok-build_waiting.ensures steps early c.offer_early.ensures.same)
