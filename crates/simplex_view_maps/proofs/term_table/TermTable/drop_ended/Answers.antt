-- How the contract of `drop_ended` follows: the terms that end at or below the view are those that start up to the last
-- end.
use Rattle.std.proofs.Common.{◌≡◌, ◌+◌, ◌<◌, ◌≤◌, ap, sym, ◌∙◌, subst, arith}
use Rattle.simplex_types.specs.Terms.{term_start}
use Rattle.simplex_view_maps.specs.Tracked.{at_or_above}
use Rattle.simplex_view_maps.specs.TermLists.{joined, AreByTerm}
use Rattle.simplex_view_maps.proofs.Terms.{all_open, alike, start_after}
use Rattle.simplex_view_maps.proofs.TermLists.{open_by_term, open_joined}
use Rattle.simplex_view_maps.proofs.term_table.TermTable.drop_ended.Goals as goal

pub returns-then-get-views : goal.returns-then-get-views
returns-then-get-views g c =
    let views : c.from-views.result ≡ c.self.inside.term_length = c.from-views.ensures ∙ c.get-2.ensures.value
    ∙ c.get.ensures.value in
    let first : c.args.view < c.self.inside.term_length = omega (arith, views, c.if-get-views.true, c.get-3.ensures) in
    rw (← c.self.view_is) (alike c.self.inside.term_length
    (all_open (record { term_length = c.self.inside.term_length; by_view = joined c.self.inside.terms }) c.args.view
    first))

pub returns : goal.returns
returns g c =
    let views : c.from-views.result ≡ c.self.inside.term_length = c.from-views.ensures ∙ c.get-2.ensures.value
    ∙ c.get.ensures.value in
    let later : c.self.inside.term_length ≤ c.args.view = omega (arith, views, c.if-get-views.false, c.get-3.ensures) in
    let start : c.new.result + 1 ≡ term_start c.self.inside.term_length (c.args.view + 1) =
    rw (c.new.ensures, views, c.get-4.ensures) (start_after c.self.inside.term_length c.args.view) in
    rw (← c.self.view_is) (alike c.self.inside.term_length (
    ap joined (c.drop_up_to.ensures ∙ ap (at_or_above c.self.inside.terms) start)
    ∙ open_joined _ _ c.self.invariant c.args.view c.get.ensures.positive later))

pub invariant_of-self : goal.invariant_of-self
invariant_of-self g c =
    let views : c.from-views.result ≡ c.self.inside.term_length = c.from-views.ensures ∙ c.get-2.ensures.value
    ∙ c.get.ensures.value in
    let later : c.self.inside.term_length ≤ c.args.view = omega (arith, views, c.if-get-views.false, c.get-3.ensures) in
    let start : c.new.result + 1 ≡ term_start c.self.inside.term_length (c.args.view + 1) =
    rw (c.new.ensures, views, c.get-4.ensures) (start_after c.self.inside.term_length c.args.view) in
    subst (AreByTerm c.self.inside.term_length)
    (sym (c.drop_up_to.ensures ∙ ap (at_or_above c.self.inside.terms) start))
    (open_by_term _ _ c.self.invariant c.args.view c.get.ensures.positive later)
