-- How the contract of `at_or_above` follows: the entries of the map at or above the view are those of the rounds.
use Rattle.std.proofs.Common.{ap, sym, ◌∙◌, filter}
use Rattle.std.specs.Prelude.{nat_le}
use Rattle.simplex_voter.proofs.Containers.{entries-kept}
use Rattle.simplex_voter.proofs.Scans.{in_order}
use Rattle.simplex_voter.proofs.voter.rounds.Rounds.at_or_above.Goals as goal

pub returns-clause-above : goal.returns-clause-above
returns-clause-above g c = c.at_or_above.ensures ∙ entries-kept _ c.args.view
    ∙ ap (λ x. filter (λ e. nat_le c.args.view e.0) x.by_view) c.self.view_is

pub returns-clause-ordered : goal.returns-clause-ordered
returns-clause-ordered g c = in_order c.args.self.now.by_view c.self.inside.by_view
    (sym (ap (λ x. x.by_view) c.self.view_is))
