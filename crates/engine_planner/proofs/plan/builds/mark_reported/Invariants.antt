-- Those so far were asked for, and those that are left are unchanged.
use Rattle.std.proofs.Common.{◌≡◌, ◌++◌, drop, take, map}
use Rattle.engine_planner.specs.Blocks.{reported_by}
use Rattle.engine_planner.proofs.plan.builds.mark_reported.Given as goal

abbrev pub invariant-loop-building : goal.invariant-loop-building
invariant-loop-building g l = l.builds ≡ map (reported_by l.view) (take l.building-index l.initial.builds) ++ drop
    l.building-index l.initial.builds
