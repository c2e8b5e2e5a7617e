-- How the contract of `first_unnullified_view` follows: the first gap of the nullified views by terms is the first view
-- that none covers.
use Rattle.std.proofs.Common.{◌<◌, ap, sym, subst, ◌∙◌}
use Rattle.simplex_voter.proofs.Covered.{first_found}
use Rattle.simplex_voter.proofs.voter.state.State.first_unnullified_view.Goals as goal

pub returns : goal.returns
returns g c =
    let shown = sym (ap (λ x. x.nullified) c.self.view_is) in
    let same = c.self.invariant.nullified ∙ ap (λ x. x.terms.term_length) c.self.view_is in
    let some = subst (λ n. 0 < n) (ap (λ t. t.term_length) c.terms.ensures
    ∙ ap (λ x. x.terms.term_length) c.self.view_is) c.get-length.ensures.positive in
    first_found c.args.self.now c.self.inside.nullified shown same c.args.parent c.args.view c.first_uncovered.result
    some c.first_uncovered.ensures
