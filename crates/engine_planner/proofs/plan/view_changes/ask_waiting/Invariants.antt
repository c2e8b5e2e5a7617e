-- The steps so far and those that are left are what all come to.
use Rattle.std.proofs.Common.{◌≡◌, ◌++◌, drop}
use Rattle.engine_planner.specs.ViewChanges.{asking_by}
use Rattle.engine_planner.proofs.plan.view_changes.ask_waiting.Given as goal

abbrev pub invariant-loop-building : goal.invariant-loop-building
invariant-loop-building g l = l.steps.items ++ asking_by l.view (drop l.building-index l.builds) ≡ l.initial.steps.items
    ++ asking_by l.view l.builds
