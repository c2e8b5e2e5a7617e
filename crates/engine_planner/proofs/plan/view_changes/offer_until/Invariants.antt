-- The steps so far and those that are left are what all come to.
use Rattle.std.proofs.Common.{◌≡◌, ◌++◌, drop}
use Rattle.engine_planner.specs.ViewChanges.{offering}
use Rattle.engine_planner.proofs.plan.view_changes.offer_until.Given as goal

abbrev pub invariant-loop-it : goal.invariant-loop-it
invariant-loop-it g l = l.steps.items ++ offering l.view (drop l.it-index l.early) ≡ l.initial.steps.items ++ offering
    l.view l.early
