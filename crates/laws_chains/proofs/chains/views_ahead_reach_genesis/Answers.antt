-- by the law, of the computed network
use Rattle.laws_chains.proofs.ViewsAhead.{ahead_witnessed, ahead_offers, ahead_reaches_genesis}
use Rattle.laws_chains.proofs.chains.views_ahead_reach_genesis.Goals as goal

pub returns-clause-premises : goal.returns-clause-premises
returns-clause-premises c = (ahead_witnessed, ahead_offers)

pub returns-clause-genesis : goal.returns-clause-genesis
returns-clause-genesis c = ahead_reaches_genesis
