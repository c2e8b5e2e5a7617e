-- How the contract of `apply` follows: the effects so far are applied, and one more settles its views and opens its
-- own.
use Rattle.std.proofs.Common.{◌&&◌, ◌||◌, not, ap, sym, subst, ◌∙◌, take, ◌++◌, [], ◌∷◌, arith}
use Rattle.std.proofs.lemmas.List.{take_more, take_all}
use Rattle.std.proofs.lemmas.Result.{err_from_is_err_and}
use Rattle.std.specs.List.{list_any}
use Rattle.simplex_resolver.specs.Repair.{has, settles, is_outstanding, IsApplied}
use Rattle.simplex_resolver.proofs.Views.{applied-next, keeps_outstanding}
use Rattle.simplex_resolver.proofs.resolver.outstanding.apply.Goals as goal

pub loop-effect-preserved : goal.loop-effect-preserved
loop-effect-preserved c v =
    let more = take_more c.args.effects.now c.loop-effect.effect-index c.effect-item.result c.loop-effect-test.true in
    let all = more ∙ ap (λ e. take c.loop-effect.effect-index c.args.effects.now ++ e ∷ []) (sym c.effect-item.is) in
    applied-next (has c.args.outstanding.now.keys v) (has c.loop-effect.outstanding.keys v)
    (has c.apply_one.new.outstanding.keys v)
    (take c.loop-effect.effect-index c.args.effects.now) c.effect-item.result v (c.loop-effect.invariant v)
    (c.in_ok-apply_one.ensures.after v)
    ∙ ap (λ es. (has c.args.outstanding.now.keys v && not (list_any (settles v) es)) || is_outstanding es v) (sym all)

pub returns-in_err-apply_one-clause-a_beginning : goal.returns-in_err-apply_one-clause-a_beginning
returns-in_err-apply_one-clause-a_beginning c =
    let p = err_from_is_err_and c.from_residual.result c.from_residual.ensures.1 in
    rw p.1 (
      c.loop-effect.effect-index,
      omega (arith, c.loop-effect-test.true),
      λ v. ap (λ vs. has vs v) c.in_err-apply_one.ensures.refused ∙ c.loop-effect.invariant v,
    )

pub returns-clause-kept : goal.returns-clause-kept
returns-clause-kept c =
    let whole = take_all c.loop-effect.effect-index c.args.effects.now c.loop-effect-test.false in
    keeps_outstanding c.args.outstanding.now.keys c.loop-effect.outstanding.keys c.args.effects.now
    (subst (λ es. IsApplied c.args.outstanding.now.keys es c.loop-effect.outstanding.keys) whole
    c.loop-effect.invariant)
