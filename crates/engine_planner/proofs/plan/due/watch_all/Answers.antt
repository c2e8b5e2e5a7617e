-- Each step is queued after those before.
use Rattle.std.proofs.Common.{◌∙◌, ◌∷◌, ◌++◌, [], refl, ap, arith}
use Rattle.engine_planner.specs.declared.plan.Step.TheVariants.{Ask}
use Rattle.engine_planner.specs.StepSelection.{watching_one, watching_all}
use Rattle.engine_planner.proofs.ViewChanges.{more_queued}
use Rattle.engine_planner.proofs.plan.due.watch_all.Goals as goal

pub loop-building-preserved : goal.loop-building-preserved
loop-building-preserved g c =
    let loop = c.loop-building in
    more_queued (watching_all c.args.current) (λ building. Ask (watching_one c.args.current building) ∷ [])
    c.args.builds.now loop.building-index c.building-item.result
    loop.steps.items c.queue.new.steps.items _ (omega arith) c.building-item.is refl loop.invariant
    (c.in_ok-queue.ensures ∙ ap (λ task. loop.steps.items ++ Ask task ∷ []) c.watching_one.ensures)
