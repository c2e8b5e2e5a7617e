-- How the contract of `views_within` follows: the rounds' views in the range are the state's.
use Rattle.simplex_voter.proofs.voter.state.State.views_within.Goals as goal

pub returns-clause-within : goal.returns-clause-within
returns-clause-within g c = rw (← c.self.view_is) c.within.ensures.within

pub returns-clause-ordered : goal.returns-clause-ordered
returns-clause-ordered g c = rw (← c.self.view_is) c.within.ensures.ordered
