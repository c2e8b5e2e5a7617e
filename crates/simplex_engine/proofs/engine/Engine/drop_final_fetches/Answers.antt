-- That a fetch that is closed loses nothing that is planned.
use Rattle.std.proofs.Common.{ap, [], ◌||◌, true, subst}
use Rattle.engine_planner.proofs.PlannedWork.{among_still, plans_dropped, keeps_still}
use Rattle.engine_planner.specs.Causes.{planned_causes}
use Rattle.simplex_engine.proofs.FetchCauses.{drops_fetches}
use Rattle.simplex_engine.proofs.UnfinishedWork.{on_any}
use Rattle.std.specs.Option.{option_map_or}
use Rattle.std.specs.Prelude.{nat_le, OnOk}
use Rattle.engine_fetches.specs.OutstandingFetches.{holds}
use Rattle.engine_planner.specs.FetchRequests.{KeepsFetching}
use Rattle.engine_planner.proofs.AskedSteps.{dropped_asks}
use Rattle.simplex_engine.proofs.engine.Engine.drop_final_fetches.Goals as goal

pub returns-in-Some-clause-planned : goal.returns-in-Some-clause-planned
returns-in-Some-clause-planned g c = plans_dropped _ _ c.args.self.now.plan c.drop_served.new.self c.drop_served.result
    c.drop_served.ensures.same c.drop_served.ensures.kept c.drop_served.ensures.refused

pub returns-in-Some-clause-builds : goal.returns-in-Some-clause-builds
returns-in-Some-clause-builds g c = ap (λ plan. plan.builds.buildings.items) c.drop_served.ensures.same

pub returns-in-Some-clause-timeout : goal.returns-in-Some-clause-timeout
returns-in-Some-clause-timeout g c = on_any c.drop_served.result (ap (λ plan. plan.timeout) c.drop_served.ensures.same)

pub returns-in-None-clause-planned : goal.returns-in-None-clause-planned
returns-in-None-clause-planned g c = keeps_still

pub returns-in-Some-clause-causes : goal.returns-in-Some-clause-causes
returns-in-Some-clause-causes g c = drops_fetches c.drop_served.result _ _ c.args.self.now.plan c.drop_served.new.self
    c.drop_served.ensures.same c.drop_served.ensures.kept c.drop_served.ensures.refused

pub returns-in-None-clause-causes : goal.returns-in-None-clause-causes
returns-in-None-clause-causes g c = among_still (planned_causes c.args.self.now.plan)

pub returns-in-Some-clause-asks : goal.returns-in-Some-clause-asks
returns-in-Some-clause-asks g c =
    subst (λ life. OnOk c.drop_served.result
    (KeepsFetching [] (λ kind view. option_map_or
    (λ x. holds c.drop_served.new.self.repair.resolver.open_fetches x kind view) life true
    || option_map_or (λ x. nat_le view x.finalized) life true) [] c.args.self.now.plan c.drop_served.new.self))
    c.in-Some.ensures.life
    (dropped_asks c.drop_served.result c.in-Some.state.now c.args.self.now.plan c.drop_served.new.self
    c.drop_served.ensures.same c.drop_served.ensures.kept)
