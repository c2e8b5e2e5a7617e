-- How the contract of `drop_range` follows: each view of the range that is found is taken out, and the end is where
-- none is left.
use Rattle.std.proofs.Common.{◌≡◌, ◌&&◌, ◌+◌, ◌==◌, nat_le, false, if◌then◌else◌, length, sym, subst, ◌∙◌, arith}
use Rattle.std.proofs.lemmas.Bool.Decides.{nat_tests}
use Rattle.std.specs.Ordering.{nat_cmp, is_eq}
use Rattle.simplex_resolver.specs.Repair.{has}
use Rattle.simplex_resolver.proofs.Ranges.{is_same, found, first_passes, is_there, none_passes}
use Rattle.simplex_resolver.proofs.resolver.outstanding.drop_range.Goals as goal

pub loop-view-smaller : goal.loop-view-smaller
loop-view-smaller c =
    let view = c.in-Some.view in
    let passes = first_passes (λ v. nat_le c.args.start v && nat_le v c.args.end) c.loop-view.views.keys view
    (sym c.first_within.ensures ∙ c.in-Some.is) in
    let there = c.remove.ensures.test ∙ found c.loop-view.views.keys view
    ∙ is_there (nat_le c.args.start view && nat_le view c.args.end) _ passes in
    let one_less = subst (λ b. length c.remove.new.self.keys + (if b then 1 else 0) ≡ length c.loop-view.views.keys)
    there c.remove.ensures.len in
    omega (arith, one_less)

pub loop-view-preserved : goal.loop-view-preserved
loop-view-preserved c v outside =
    let view = c.in-Some.view in
    let passes = first_passes (λ v. nat_le c.args.start v && nat_le v c.args.end) c.loop-view.views.keys view
    (sym c.first_within.ensures ∙ c.in-Some.is) in
    let other : (view == v) ≡ false = grind (arith, nat_tests, passes, outside) in
    let apart : is_eq (nat_cmp view v) ≡ false = is_same view v ∙ other in
    sym (found c.remove.new.self.keys v) ∙ c.remove.ensures.updates.2 v apart ∙ found c.loop-view.views.keys v
    ∙ c.loop-view.invariant v outside

pub returns : goal.returns
returns c v =
    none_passes (λ v. nat_le c.args.start v && nat_le v c.args.end) c.loop-view.views.keys v
    (has c.args.views.now.keys v)
    (sym c.first_within.ensures ∙ c.in_default.is) (c.loop-view.invariant v)
