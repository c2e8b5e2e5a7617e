-- How the contract of `round_at` follows: the rounds' look-up is the state's.
use Rattle.simplex_voter.proofs.voter.state.State.round_at.Goals as goal

pub returns-clause-round : goal.returns-clause-round
returns-clause-round g c = rw (← c.self.view_is) c.get.ensures.round
