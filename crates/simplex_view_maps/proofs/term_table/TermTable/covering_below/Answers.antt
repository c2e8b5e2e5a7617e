-- How the contract of `covering_below` follows: the views below a view that cover it are those of its term below it.
use Rattle.std.proofs.Common.{◌≡◌, ◌&&◌, ltb, Some, None, ap, sym, ◌∙◌}
use Rattle.std.specs.Option.{option_copied}
use Rattle.std.specs.FinMap as map
use Rattle.simplex_types.specs.Terms.{term_start, covers}
use Rattle.simplex_view_maps.specs.Tracked.{last_entry}
use Rattle.simplex_view_maps.proofs.TermLists.{part_of, no_part, last_none}
use Rattle.simplex_view_maps.proofs.Terms.{below_covers}
use Rattle.simplex_view_maps.proofs.term_table.TermTable.covering_below.Goals as goal

pub returns-in_err-get : goal.returns-in_err-get
returns-in_err-get g c =
    let length = c.self.inside.term_length in
    let v = c.args.view in
    let found : map.get c.self.inside.terms (term_start length v) ≡ None =
    rw c.term_start-start.ensures at (sym c.get.ensures ∙ ap option_copied c.in_err-get.was) in
    rw (← c.self.view_is, c.from_residual.ensures)
    (last_none ∙ ap last_entry (no_part length _ c.self.invariant (λ u. ltb u v && covers length u v)
    (λ key. ltb key v) v (below_covers length v) found))

pub returns : goal.returns
returns g c =
    let length = c.self.inside.term_length in
    let v = c.args.view in
    let views = c.in_ok-get.field-0.now in
    let found : map.get c.self.inside.terms (term_start length v) ≡ Some views =
    rw c.term_start-start.ensures at (sym c.get.ensures ∙ ap option_copied c.in_ok-get.was) in
    rw (← c.self.view_is) (c.last_below.ensures
    ∙ ap last_entry (part_of length _ c.self.invariant (λ u. ltb u v && covers length u v) (λ key. ltb key v) v
    (below_covers length v) views found))
