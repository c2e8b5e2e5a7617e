-- How the contract of `of_one` follows: in a map of no view an insert finds none.
use Rattle.std.proofs.Common.{ap, ◌∙◌}
use Rattle.std.specs.Ordering.{nat_cmp}
use Rattle.std.specs.FinMap as map
use Rattle.simplex_view_maps.specs.Tracked.{unboxed}
use Rattle.simplex_view_maps.proofs.Maps.{made_empty}
use Rattle.simplex_view_maps.proofs.TermLists.{put_new}
use Rattle.simplex_view_maps.proofs.tracked.Tracked.of_one.Goals as goal

pub returns-clause-made : goal.returns-clause-made
returns-clause-made g c =
    let empty = made_empty _ (ap unboxed c.in-Ok.ensures) in
    let none = ap (λ m. map.get m c.args.view) empty ∙ map.get-empty nat_cmp c.args.view in
    put_new _ _ _ _ _ none c.in_ok-insert.ensures.standing c.in_ok-insert.ensures.after
    ∙ ap (λ m. map.insert m c.args.view c.args.value) empty
