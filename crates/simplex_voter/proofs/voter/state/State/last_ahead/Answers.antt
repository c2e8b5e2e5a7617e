-- How the contract of `last_ahead` follows: the current view is bounded, so the next term's start fits.
use Rattle.std.proofs.Common.{◌<◌, ◌^◌, ap, ◌∙◌, subst, arith}
use Rattle.simplex_types.specs.Terms.{next_term_start}
use Rattle.simplex_voter.proofs.Near.{next_near}
use Rattle.simplex_voter.proofs.voter.state.State.last_ahead.Goals as goal

pub next_term_start-requires : goal.next_term_start-requires
next_term_start-requires g c =
    let current = ap (λ x. x.current) c.self.view_is in
    (omega (arith, current, c.requires), omega (arith, c.self.invariant.in_range))

pub returns-clause-room : goal.returns-clause-room
returns-clause-room g c =
    let current = ap (λ x. x.current) c.self.view_is in
    let terms = ap (λ t. t.term_length) (c.terms-length.ensures ∙ ap (λ x. x.terms) c.self.view_is) in
    let near =
    next_near c.args.self.now.terms.term_length c.args.self.now.current
    (subst (λ n. 0 < n) terms c.get-views.ensures.positive)
    (subst (λ n. n < 2 ^ 32) terms c.get-views.ensures.in_range)
    c.requires (omega (arith, current, c.self.invariant.in_range))
    in
    let last = c.next_term_start.ensures ∙ (λ i. next_term_start (terms i) (ap (λ x. x.current) c.self.view_is i)) in
    (omega (arith, last, near.0), omega (arith, last, near.1))
