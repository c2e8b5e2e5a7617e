-- The block's end is reported where the application was asked for it.
use Rattle.engine_planner.proofs.PlanStates.{on_ok, stopped}
use Rattle.engine_planner.proofs.plan.Plan.stop_building.Goals as goal

pub returns : goal.returns
returns g c =
    on_ok c.push_stop.result c.push_stop.ensures
    (stopped c.args.view c.is_asked-is_reported.result c.args.self.now c.end_building.new.self c.push_stop.new.self
    c.is_asked-is_reported.ensures c.end_building.ensures)
