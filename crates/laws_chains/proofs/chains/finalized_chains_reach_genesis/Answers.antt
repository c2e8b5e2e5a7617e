-- from parent to parent
use Rattle.laws_chains.proofs.ChainsToGenesis.{finalized_reach_genesis, certified_reach_genesis}
use Rattle.laws_chains.proofs.chains.finalized_chains_reach_genesis.Goals as goal

pub returns-clause-finalized : goal.returns-clause-finalized
returns-clause-finalized g c term_length network good =
    finalized_reach_genesis g.D.PartialEq.eq g.met.D.Digest.equal_is_same g.L.Elector.elect term_length network good

pub returns-clause-certified : goal.returns-clause-certified
returns-clause-certified g c term_length network good =
    certified_reach_genesis g.D.PartialEq.eq g.met.D.Digest.equal_is_same g.L.Elector.elect term_length network good
