-- How the contract of `round_shows_its_history` follows: each call of a round changes its facts as the newest entry
-- changes those of the list.
use Rattle.simplex_types.specs.Proposal.{same_proposal}
use Rattle.simplex_round.proofs.RoundHistory.{shows_each_call}
use Rattle.simplex_round.proofs.history.round_shows_its_history.Goals as goal

pub returns : goal.returns
returns g c = shows_each_call (same_proposal g.D.PartialEq.eq)
