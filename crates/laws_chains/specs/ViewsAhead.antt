-- The chain of the network whose members vote ahead.
use Rattle.laws_safety.specs.AheadNetwork.{voted_ahead, three}
use Rattle.laws_chains.specs.Parents.{HandoffsAreWitnessed}
use Rattle.laws_chains.specs.Chains.{VerdictsAreOnOffers, ReachesGenesis}

-- the network keeps the premises
abbrev pub KeepsPremises : Type 0
KeepsPremises = HandoffsAreWitnessed voted_ahead × VerdictsAreOnOffers voted_ahead

-- and a chain leads from its finalized proposal to genesis
abbrev pub AheadReachesGenesis : Type 0
AheadReachesGenesis = ReachesGenesis voted_ahead three
