-- How the contract of `get` follows: the map's round of the view is the state's, and its view is in range as each
-- tracked one's is.
use Rattle.std.proofs.Common.{ap, sym, refl, ◌∙◌}
use Rattle.simplex_voter.proofs.Changed.{found_at, in_range_at}
use Rattle.simplex_voter.proofs.voter.rounds.Rounds.get.Goals as goal

pub returns-clause-round : goal.returns-clause-round
returns-clause-round g c = c.get.ensures ∙ sym
    (found_at c.args.self.now _ (sym (ap (λ x. x.by_view) c.self.view_is)) c.args.view)

pub returns-clause-in_range : goal.returns-clause-in_range
returns-clause-in_range g c = in_range_at _ _ refl c.self.invariant _ _ c.get.ensures
