-- How the contract of `may_notarize` follows: a view that may be voted for is near the current one, so a next one fits.
use Rattle.std.proofs.Common.{◌<◌, ◌^◌, ap, sym, ◌∙◌, subst, arith}
use Rattle.simplex_voter.proofs.Near.{admitted_near}
use Rattle.simplex_voter.proofs.voter.state.State.may_notarize.Goals as goal

pub returns-then-has_ancestry-clause-room : goal.returns-then-has_ancestry-clause-room
returns-then-has_ancestry-clause-room g c = λ may.
    let terms = ap (λ t. t.term_length) (c.terms.ensures ∙ ap (λ x. x.terms) c.self.view_is) in
    let current = ap (λ x. x.current) c.self.view_is in
    admitted_near c.args.self.now c.args.view (sym c.if-not-is_admitted.ensures)
    (subst (λ n. 0 < n) terms c.get-length.ensures.positive)
    (subst (λ n. n < 2 ^ 32) terms c.get-length.ensures.in_range)
    c.requires (omega (arith, current, c.self.invariant.in_range))
