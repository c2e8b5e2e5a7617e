-- what each member does is computed, and two honest members of a quorum voted apart
use Rattle.laws_chains.proofs.EarlyLeaders.{early_network, early_offers, early_finalized, no_parent}
use Rattle.laws_chains.proofs.chains.parents_need_one_elector.Goals as goal

pub returns-clause-network : goal.returns-clause-network
returns-clause-network c = early_network

pub returns-clause-offers : goal.returns-clause-offers
returns-clause-offers c = early_offers

pub returns-clause-finalizes : goal.returns-clause-finalizes
returns-clause-finalizes c = early_finalized

pub returns-clause-no_parent : goal.returns-clause-no_parent
returns-clause-no_parent c = no_parent
