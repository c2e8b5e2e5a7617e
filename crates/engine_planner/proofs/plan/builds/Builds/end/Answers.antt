-- That just the blocks of other views are left, which are of different views still.
use Rattle.std.proofs.Common.{◌≡◌, rules, not, sym, subst, true, ◌==◌}
use Rattle.std.proofs.lemmas.Fn.{filter_same}
use Rattle.engine_planner.specs.Blocks.{one_a_view}
use Rattle.engine_planner.proofs.Blocks.{left_once}
use Rattle.engine_planner.proofs.plan.builds.Builds.end.Goals as goal

pub returns : goal.returns
returns g c = filter_same _ (λ building. not (building.context.round.view == c.args.view)) _ (λ x b f' k. search rules)
    _ _ c.retain.ensures.filtered

pub invariant_of-self : goal.invariant_of-self
invariant_of-self g c = record {
  once = subst (λ blocks. one_a_view blocks ≡ true)
      (sym (filter_same _ (λ building. not (building.context.round.view == c.args.view)) _ (λ x b f' k. search rules) _
      _ c.retain.ensures.filtered))
      (left_once c.args.view _ c.args.self.now.once);
}
