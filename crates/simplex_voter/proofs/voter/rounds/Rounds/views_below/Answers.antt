-- How the contract of `views_below` follows: the keys of the map below the view are the tracked views there.
use Rattle.std.proofs.Common.{ap, ◌∙◌, nat_lt, filter}
use Rattle.std.specs.Prelude.{map as map_list}
use Rattle.simplex_voter.proofs.RoundsKept.{keys-below}
use Rattle.simplex_voter.proofs.voter.rounds.Rounds.views_below.Goals as goal

pub returns-clause-views : goal.returns-clause-views
returns-clause-views g c =
    c.in_ok-views_below.ensures ∙ keys-below c.self.inside.by_view c.args.view
    ∙ ap (λ x. map_list (λ e. e.0) (filter (λ e. nat_lt e.0 c.args.view) x.by_view)) c.self.view_is
