-- How the contract of `highest_explicit` follows: the last explicit round below is the highest, and genesis is where
-- there is none.
use Rattle.std.proofs.Common.{None, nat_lt, filter, ap, ◌∙◌}
use Rattle.std.specs.List.{filter_map, last_or}
use Rattle.simplex_voter.specs.Facts.{round_at}
use Rattle.simplex_voter.specs.Parents.{at_view, explicit_at}
use Rattle.simplex_voter.proofs.Explicit.{no_explicit, highest_found, none_explicit}
use Rattle.simplex_voter.proofs.voter.state.State.highest_explicit.Goals as goal

pub returns-in-Some : goal.returns-in-Some
returns-in-Some g c =
    let down = c.down_from.ensures in
    let below = down.entries ∙ ap (λ x. filter (λ e. nat_lt e.0 down.end) x.rounds) c.self.view_is in
    highest_found c.args.self.now c.args.view down.end down.not_above
    (λ w low high. no_explicit c.args.self.now w (down.above w low high)
    (λ r is. down.rest w r low high (ap (λ x. round_at x w) c.self.view_is ∙ is)))
    c.in-Some.found
    (c.in-Some.ensures ∙ ap (λ es. last_or None (filter_map (explicit_at c.args.self.now) es)) below)

pub returns-in-None : goal.returns-in-None
returns-in-None g c =
    let down = c.down_from.ensures in
    let below = down.entries ∙ ap (λ x. filter (λ e. nat_lt e.0 down.end) x.rounds) c.self.view_is in
    none_explicit c.args.self.now c.args.view down.end down.not_above
    (λ w low high. no_explicit c.args.self.now w (down.above w low high)
    (λ r is. down.rest w r low high (ap (λ x. round_at x w) c.self.view_is ∙ is)))
    c.at_view.result
    (c.in-None.ensures ∙ ap (λ es. last_or None (filter_map (explicit_at c.args.self.now) es)) below)
    (c.at_view.ensures ∙ ap (λ v. at_view v c.self.inside.genesis) c.zero.ensures
    ∙ ap (λ x. at_view 0 x.genesis) c.self.view_is)
