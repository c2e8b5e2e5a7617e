-- That nothing but what is planned changes.
use Rattle.std.proofs.Common.{◌≡◌, ◌∙◌, ap, refl, subst, [], true}
use Rattle.std.specs.Prelude.{IfSome, nat_le}
use Rattle.engine_planner.proofs.ViewChanges.{seen_keeps, seen_views}
use Rattle.engine_planner.proofs.GivenWork.{seen_alone}
use Rattle.std.specs.Option.{option_map_or}
use Rattle.engine_planner.specs.FetchRequests.{KeepsFetching}
use Rattle.engine_planner.proofs.AskedSteps.{seen_asks}
use Rattle.simplex_engine.proofs.engine.Engine.update_views.Goals as goal

pub returns-in_default : goal.returns-in_default
returns-in_default g c =
    record { core = refl; batcher = refl; sees = tt; planned = tt; seen = tt; causes = tt; asks = tt }

pub returns : goal.returns
returns g c =
    let views = seen_views _ c.args.self.now.plan c.update_views.new.self c.in_ok-update_views.ensures in
    record {
      core = refl;
      batcher = refl;
      sees = (_, c.in_ok-update_views.ensures);
      planned = seen_keeps _ c.args.self.now.plan c.update_views.new.self c.in_ok-update_views.ensures;
      seen = subst (λ life. IfSome life (λ x. (c.update_views.new.self.views.current ≡ x.current)
          × (c.update_views.new.self.views.last_finalized ≡ x.finalized))) c.in-Some.ensures.life (
            ap (λ v. v.current) views ∙ c.current_view.ensures,
            ap (λ v. v.last_finalized) views ∙ c.last_finalized.ensures,
          );
      causes = seen_alone _ c.args.self.now.plan c.update_views.new.self c.in_ok-update_views.ensures;
      asks = subst (λ life. KeepsFetching [] (λ kind view. option_map_or (λ x. nat_le view x.finalized) life true) []
          c.args.self.now.plan c.update_views.new.self) c.in-Some.ensures.life
          (subst (λ last. KeepsFetching [] (λ kind view. nat_le view last) [] c.args.self.now.plan
          c.update_views.new.self) c.last_finalized.ensures
          (seen_asks _ c.args.self.now.plan c.update_views.new.self c.in_ok-update_views.ensures));
    }
