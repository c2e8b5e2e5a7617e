-- That the effects are carried out, and no wanted view is left out by them.
use Rattle.std.proofs.Common.{◌∙◌, ap, refl, sym, subst}
use Rattle.engine_fetches.specs.OutstandingFetches.{after_effects, FetchesTheOutstanding, OpensNoOther}
use Rattle.engine_fetches.proofs.OpenedFetches.{opens_after}
use Rattle.engine_fetches.proofs.Repairs.{is_repaired}
use Rattle.engine_fetches.proofs.OutstandingFetches.{asks_after}
use Rattle.engine_fetches.proofs.repair.Repair.certified.Goals as goal

pub returns-clause-repaired : goal.returns-clause-repaired
returns-clause-repaired g c =
    let fetches = c.args.self.now.fetches.wanted.items in
    is_repaired c.args.moment _ c.args.self.now _ c.in_ok-effects.effects.items c.in_ok-effects.ensures.made
    (c.in_ok-apply.ensures.after ∙ ap (λ es. after_effects c.args.moment es fetches) c.deref.ensures.value)
    c.apply.ensures.same refl refl

pub returns-clause-no_other : goal.returns-clause-no_other
returns-clause-no_other g c =
    let old = c.args.self.now in
    let fetches = old.fetches.wanted.items in
    let now = c.certified.new.self.open_fetches in
    let after = c.in_ok-apply.ensures.after ∙ ap (λ es. after_effects c.args.moment es fetches) c.deref.ensures.value in
    subst (OpensNoOther old.resolver.open_fetches fetches now) (sym after)
    (opens_after c.args.moment old.resolver.open_fetches now c.in_ok-effects.effects.items fetches
    c.in_ok-effects.ensures.made.applied)

pub invariant_of-self-2 : goal.invariant_of-self-2
invariant_of-self-2 g c =
    let old = c.args.self.now in
    let fetches = old.fetches.wanted.items in
    let after = c.in_ok-apply.ensures.after ∙ ap (λ es. after_effects c.args.moment es fetches) c.deref.ensures.value in
    record {
      complete = λ up. subst (FetchesTheOutstanding old.passed c.certified.new.self.open_fetches) (sym after)
          (asks_after old.passed c.args.moment old.resolver.open_fetches c.certified.new.self.open_fetches
          c.in_ok-effects.effects.items fetches c.in_ok-effects.ensures.made.applied (old.complete up));
    }
