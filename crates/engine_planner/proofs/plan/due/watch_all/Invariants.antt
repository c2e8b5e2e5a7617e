-- The steps so far and those that are left are what all come to.
use Rattle.std.proofs.Common.{◌≡◌, ◌++◌, drop}
use Rattle.engine_planner.specs.StepSelection.{watching_all}
use Rattle.engine_planner.proofs.plan.due.watch_all.Given as goal

abbrev pub invariant-loop-building : goal.invariant-loop-building
invariant-loop-building g l = l.steps.items ++ watching_all l.current
    (drop l.building-index l.builds) ≡ l.initial.steps.items ++ watching_all l.current l.builds
