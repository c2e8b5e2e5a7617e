-- How the contract of `is_covered` follows: the nullified views by terms cover a view exactly if one is in its term up
-- to it.
use Rattle.std.proofs.Common.{ap, sym, ◌∙◌}
use Rattle.simplex_voter.proofs.Covered.{covered_by}
use Rattle.simplex_voter.proofs.voter.state.State.is_covered.Goals as goal

pub returns : goal.returns
returns g c =
    let shown = sym (ap (λ x. x.nullified) c.self.view_is) in
    let same = c.self.invariant.nullified ∙ ap (λ x. x.terms.term_length) c.self.view_is in
    c.is_some.ensures ∙ covered_by c.args.self.now c.self.inside.nullified shown same _ c.covering.result c.args.view
    c.covering.ensures
