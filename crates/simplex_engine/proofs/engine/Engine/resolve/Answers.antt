-- That a fetch loses nothing that is planned.
use Rattle.std.proofs.Common.{Ok}
use Rattle.engine_planner.proofs.PlannedWork.{plans_opened}
use Rattle.simplex_engine.proofs.FetchCauses.{resolved}
use Rattle.simplex_engine.proofs.Provenance.{fails}
use Rattle.engine_planner.proofs.AskedSteps.{resolves_asks}
use Rattle.simplex_engine.proofs.engine.Engine.resolve.Goals as goal

pub returns-clause-planned : goal.returns-clause-planned
returns-clause-planned g c = plans_opened _ _ c.args.self.now.plan c.resolve.new.self c.resolve.result
    c.resolve.ensures.same c.resolve.ensures.opened c.resolve.ensures.refused

pub returns-in_err-resolve-clause-planned : goal.returns-in_err-resolve-clause-planned
returns-in_err-resolve-clause-planned g c =
    plans_opened _ _ c.args.self.now.plan c.resolve.new.self c.resolve.result c.resolve.ensures.same
    c.resolve.ensures.opened c.resolve.ensures.refused

pub returns-clause-fetched : goal.returns-clause-fetched
returns-clause-fetched g c = (_, c.in_ok-resolve.ensures.opened.fetches_now)

pub returns-clause-causes : goal.returns-clause-causes
returns-clause-causes g c = resolved c.resolve.result _ _ _ _ c.args.self.now.plan c.resolve.new.self
    c.resolve.ensures.same c.resolve.ensures.opened c.resolve.ensures.refused

pub returns-in_err-resolve-clause-causes : goal.returns-in_err-resolve-clause-causes
returns-in_err-resolve-clause-causes g c =
    resolved c.resolve.result _ _ _ _ c.args.self.now.plan c.resolve.new.self c.resolve.ensures.same
    c.resolve.ensures.opened c.resolve.ensures.refused

pub returns-clause-asks : goal.returns-clause-asks
returns-clause-asks g c = resolves_asks {X = Unit {0}} {E = Unit {0}} (Ok tt) _ _ _ _ c.args.self.now.plan
    c.resolve.new.self c.resolve.ensures.same c.in_ok-resolve.ensures.opened tt

pub returns-in_err-resolve-clause-asks : goal.returns-in_err-resolve-clause-asks
returns-in_err-resolve-clause-asks g c = fails _ _ c.from_residual.result c.from_residual.ensures.1
