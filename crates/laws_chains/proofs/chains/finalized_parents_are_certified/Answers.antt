-- by the states at the votes of quorums
use Rattle.laws_chains.proofs.Parents.{finalized_parents, notarized_starts}
use Rattle.laws_chains.proofs.Quorums.{few_leave_two}
use Rattle.laws_chains.proofs.chains.finalized_parents_are_certified.Goals as goal

pub returns-clause-finalized : goal.returns-clause-finalized
returns-clause-finalized g c term_length network good =
    finalized_parents g.D.PartialEq.eq g.met.D.Digest.equal_is_same g.L.Elector.elect term_length network good

pub returns-clause-notarized : goal.returns-clause-notarized
returns-clause-notarized g c term_length network good =
    notarized_starts g.D.PartialEq.eq g.met.D.Digest.equal_is_same g.L.Elector.elect term_length network good

pub returns-clause-two : goal.returns-clause-two
returns-clause-two g c network more few = few_leave_two network more few
