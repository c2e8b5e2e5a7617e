-- One block more was asked for.
use Rattle.std.proofs.Common.{◌∙◌, ap, sym, arith}
use Rattle.std.specs.Prelude.{slice_set}
use Rattle.std.proofs.lemmas.List.Edits.{map_over_more}
use Rattle.engine_planner.specs.Blocks.{reported_by}
use Rattle.engine_planner.proofs.plan.builds.mark_reported.Goals as goal

pub loop-building-preserved : goal.loop-building-preserved
loop-building-preserved g c =
    let loop = c.loop-building in
    ap (slice_set loop.builds loop.building-index) c.reported_by.ensures
    ∙ ap (λ building. slice_set loop.builds loop.building-index (reported_by c.args.view building))
    (sym c.building-item.is)
    ∙ map_over_more (reported_by c.args.view) c.args.builds.now loop.builds loop.building-index c.building-item.result
    (omega arith) loop.invariant c.building-item.is
