-- That a view which is touched loses nothing that is planned, and that nothing changes where nothing is due.
use Rattle.std.proofs.Common.{is_some, refl, ap}
use Rattle.engine_planner.proofs.PlannedWork.{among_still, has_planned, keeps_still}
use Rattle.engine_planner.specs.Causes.{planned_causes}
use Rattle.engine_planner.specs.PlanStates.{watching}
use Rattle.engine_planner.proofs.Causes.{planned_alone}
use Rattle.simplex_engine.proofs.Provenance.{fails}
use Rattle.engine_planner.specs.FetchRequests.{never}
use Rattle.engine_planner.proofs.AskedSteps.{as_watched, asks_behind, asks_where_same}
use Rattle.simplex_engine.proofs.engine.Engine.plan_due_votes.Goals as goal

pub returns-in_ok-touch-in-Some-clause-planned : goal.returns-in_ok-touch-in-Some-clause-planned
returns-in_ok-touch-in-Some-clause-planned g c = has_planned c.in_ok-touch-in-Some.ensures

pub returns-in-None-clause-nothing : goal.returns-in-None-clause-nothing
returns-in-None-clause-nothing g c = λ _. (c.in_ok-view.ensures (ap is_some c.in-None.is), refl)

pub returns-in-None-clause-planned : goal.returns-in-None-clause-planned
returns-in-None-clause-planned g c = keeps_still

pub returns-in_ok-touch-in-Some-clause-causes : goal.returns-in_ok-touch-in-Some-clause-causes
returns-in_ok-touch-in-Some-clause-causes g c =
    planned_alone {old = watching c.args.self.now.plan} refl c.in_ok-touch-in-Some.ensures

pub returns-in-None-clause-causes : goal.returns-in-None-clause-causes
returns-in-None-clause-causes g c = among_still (planned_causes c.args.self.now.plan)

pub returns-in_err-touch-in-Some-clause-causes : goal.returns-in_err-touch-in-Some-clause-causes
returns-in_err-touch-in-Some-clause-causes g c =
    fails _ _ c.from_residual-in_err-touch-in-Some.result c.from_residual-in_err-touch-in-Some.ensures.1

pub returns-in_ok-touch-in-Some-clause-asks : goal.returns-in_ok-touch-in-Some-clause-asks
returns-in_ok-touch-in-Some-clause-asks g c = as_watched (asks_behind never c.in_ok-touch-in-Some.ensures)

pub returns-in_err-touch-in-Some-clause-asks : goal.returns-in_err-touch-in-Some-clause-asks
returns-in_err-touch-in-Some-clause-asks g c =
    fails _ _ c.from_residual-in_err-touch-in-Some.result c.from_residual-in_err-touch-in-Some.ensures.1

pub returns-in-None-clause-asks : goal.returns-in-None-clause-asks
returns-in-None-clause-asks g c = asks_where_same never refl
