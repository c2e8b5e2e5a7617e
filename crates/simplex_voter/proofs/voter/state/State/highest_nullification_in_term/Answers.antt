-- How the contract of `highest_nullification_in_term` follows: the covering entry of the nullified views by terms is
-- the highest that covers the view.
use Rattle.std.proofs.Common.{ap, sym, ◌∙◌}
use Rattle.simplex_voter.proofs.Highest.{highest_there, highest_none}
use Rattle.simplex_voter.proofs.voter.state.State.highest_nullification_in_term.Goals as goal

pub returns-in-Some : goal.returns-in-Some
returns-in-Some g c =
    let shown = sym (ap (λ x. x.nullified) c.self.view_is) in
    let same = c.self.invariant.nullified ∙ ap (λ x. x.terms.term_length) c.self.view_is in
    highest_there c.args.self.now c.self.inside.nullified c.args.view shown same _ c.in-Some.ensures

pub returns-in-None : goal.returns-in-None
returns-in-None g c =
    let shown = sym (ap (λ x. x.nullified) c.self.view_is) in
    let same = c.self.invariant.nullified ∙ ap (λ x. x.terms.term_length) c.self.view_is in
    highest_none c.args.self.now c.self.inside.nullified c.args.view shown same c.in-None.ensures
