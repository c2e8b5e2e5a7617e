-- what each member does is computed
use Rattle.laws_chains.proofs.OtherParents.{apart_network, apart_finalized, parent_is_twelve, verified_on_eleven}
use Rattle.laws_chains.proofs.chains.votes_may_be_on_another_parent.Goals as goal

pub returns-clause-network : goal.returns-clause-network
returns-clause-network c = apart_network

pub returns-clause-finalizes : goal.returns-clause-finalizes
returns-clause-finalizes c = apart_finalized

pub returns-clause-parent : goal.returns-clause-parent
returns-clause-parent c = parent_is_twelve

pub returns-clause-verified : goal.returns-clause-verified
returns-clause-verified c = verified_on_eleven
