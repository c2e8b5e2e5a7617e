-- That the blocks are of different views still.
use Rattle.std.proofs.Common.{◌≡◌, ◌∙◌, ap, sym, subst, length, true}
use Rattle.std.proofs.lemmas.List.{length-map, with_items_is}
use Rattle.engine_planner.specs.Blocks.{one_a_view, reported_by}
use Rattle.engine_planner.proofs.Blocks.{replied_once}
use Rattle.engine_planner.proofs.plan.builds.Builds.tell.Goals as goal

pub invariant_of-self : goal.invariant_of-self
invariant_of-self g c =
    let all = c.deref_mut.result.now in
    let same = with_items_is c.args.self.now.buildings c.mark_reported.new.builds
    (ap length c.mark_reported.ensures ∙ length-map all (reported_by c.args.view) ∙ c.deref_mut.ensures.len) in
    record {
      once = subst (λ blocks. one_a_view blocks ≡ true) (sym (same ∙ c.mark_reported.ensures))
          (replied_once c.args.view all
          (subst (λ blocks. one_a_view blocks ≡ true) (sym c.deref_mut.ensures.value) c.args.self.now.once));
    }
