-- what each member does is computed, and two honest members of a quorum voted apart
use Rattle.laws_chains.proofs.UnofferedVerdicts.{unoffered_network, unoffered_witnessed, unoffered_finalized, none_first, reaches_no_genesis}
use Rattle.laws_chains.proofs.chains.chains_need_offers.Goals as goal

pub returns-clause-network : goal.returns-clause-network
returns-clause-network c = unoffered_network

pub returns-clause-witnessed : goal.returns-clause-witnessed
returns-clause-witnessed c = unoffered_witnessed

pub returns-clause-finalizes : goal.returns-clause-finalizes
returns-clause-finalizes c = unoffered_finalized

pub returns-clause-none : goal.returns-clause-none
returns-clause-none c = none_first

pub returns-clause-no_chain : goal.returns-clause-no_chain
returns-clause-no_chain c = reaches_no_genesis
