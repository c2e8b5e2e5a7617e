-- How the contract of `voted_nullify` follows: the vote was cast exactly if the view is among the nullify votes.
use Rattle.std.proofs.Common.{ap, sym, ◌∙◌}
use Rattle.simplex_voter.proofs.RoundsKept.{looked_up}
use Rattle.simplex_voter.proofs.Requests.{voted_shown}
use Rattle.simplex_voter.proofs.voter.state.State.voted_nullify.Goals as goal

pub returns : goal.returns
returns g c =
    sym (looked_up _ _ _ c.get.ensures c.is_some.ensures)
    ∙ voted_shown c.args.self.now c.self.inside.nullify_votes.by_view c.args.view
    (sym (ap (λ x. x.nullify_votes) c.self.view_is))
