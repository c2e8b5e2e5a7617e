-- How the contract of `get` follows: a view is looked up in the list of its term.
use Rattle.std.proofs.Common.{◌≡◌, Some, None, refl, ap, sym, ◌∙◌}
use Rattle.std.specs.Option.{option_copied}
use Rattle.std.specs.FinMap as map
use Rattle.simplex_types.specs.Terms.{term_start}
use Rattle.simplex_view_maps.proofs.TermLists.{get_of}
use Rattle.simplex_view_maps.proofs.term_table.TermTable.get.Goals as goal

pub returns-in_err-get : goal.returns-in_err-get
returns-in_err-get g c =
    let found : map.get c.self.inside.terms (term_start c.self.inside.term_length c.args.view) ≡ None =
    rw c.term_start-start.ensures at (sym c.get.ensures ∙ ap option_copied c.in_err-get.was) in
    rw (← c.self.view_is, c.from_residual.ensures) (sym (get_of _ _ c.self.invariant c.args.view _ None refl found))

pub returns : goal.returns
returns g c =
    let found : map.get c.self.inside.terms (term_start c.self.inside.term_length c.args.view) ≡ Some
    c.in_ok-get.field-0.now = rw c.term_start-start.ensures at
    (sym c.get.ensures ∙ ap option_copied c.in_ok-get.was) in
    rw (← c.self.view_is)
    (c.get-2.ensures ∙ sym (get_of _ _ c.self.invariant c.args.view _ (Some c.in_ok-get.field-0.now) refl found))
