-- That the blocks are of different views still, with one more or none.
use Rattle.std.proofs.Common.{◌≡◌, ◌∙◌, ap, sym, subst, is_ok, true, [], ◌∷◌, ◌++◌}
use Rattle.std.proofs.lemmas.Bool.{cond_both}
use Rattle.engine_planner.specs.Blocks.{all_but_at, one_a_view}
use Rattle.engine_planner.proofs.Blocks.{put_once}
use Rattle.engine_planner.proofs.plan.builds.Builds.put.Goals as goal

pub invariant_of-self : goal.invariant_of-self
invariant_of-self g c =
    let old = c.args.self.now.buildings.items in
    let left = c.end.ensures ∙ ap (λ view. all_but_at view old) c.view_of.ensures in
    record {
      once = subst (λ blocks. one_a_view blocks ≡ true) (sym c.push.ensures.items)
          (cond_both (is_ok c.push.result) _ _ (λ blocks. one_a_view blocks ≡ true)
          (λ _. subst (λ blocks. one_a_view
          (blocks ++ record { context = c.args.context; is_reported = c.args.is_reported } ∷ []) ≡ true) (sym left)
          (put_once old (record { context = c.args.context; is_reported = c.args.is_reported }) c.args.self.now.once))
          (λ _. c.end.new.self.once));
    }
