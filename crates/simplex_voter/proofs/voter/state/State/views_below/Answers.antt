-- How the contract of `views_below` follows: the rounds' views below the lowest retained one are the state's.
use Rattle.std.proofs.Common.{ap, sym, ◌∙◌}
use Rattle.simplex_voter.specs.Windows.{min_active}
use Rattle.simplex_voter.proofs.voter.state.State.views_below.Goals as goal

pub returns-clause-views : goal.returns-clause-views
returns-clause-views g c = rw (← c.self.view_is)
    (rw (c.requires ∙ ap min_active (sym c.self.view_is)) at c.views_below.ensures.views)
