-- of each member by its execution; of a network since two quorums share an honest member
use Rattle.laws_safety.proofs.agreement.Claims.{one_proposal, finalized_uncovered, parent_before, parent_not_below, finalized_notarized, chain_holds_finalized}
use Rattle.laws_safety.proofs.agreement.Exactly.{run_exact}
use Rattle.laws_safety.proofs.records.RunsLawful.{execution_lawful}
use Rattle.laws_safety.proofs.laws.network.agreement.Goals as goal

pub returns-clause-exact : goal.returns-clause-exact
returns-clause-exact g c term_length i s ran = run_exact g.D.PartialEq.eq g.L.Elector.elect s ran.run

pub returns-clause-lawful : goal.returns-clause-lawful
returns-clause-lawful g c term_length = execution_lawful g.D.PartialEq.eq g.met.D.Digest.equal_is_same g.L.Elector.elect
    term_length

pub returns-clause-one_proposal : goal.returns-clause-one_proposal
returns-clause-one_proposal g c term_length network good =
    one_proposal g.D.PartialEq.eq g.met.D.Digest.equal_is_same g.L.Elector.elect term_length network good

pub returns-clause-finalized_uncovered : goal.returns-clause-finalized_uncovered
returns-clause-finalized_uncovered g c term_length network good =
    finalized_uncovered g.D.PartialEq.eq g.met.D.Digest.equal_is_same g.L.Elector.elect term_length network good

pub returns-clause-parent_before : goal.returns-clause-parent_before
returns-clause-parent_before g c term_length network good =
    parent_before g.D.PartialEq.eq g.met.D.Digest.equal_is_same g.L.Elector.elect term_length network good

pub returns-clause-parent_not_below : goal.returns-clause-parent_not_below
returns-clause-parent_not_below g c term_length network good =
    parent_not_below g.D.PartialEq.eq g.met.D.Digest.equal_is_same g.L.Elector.elect term_length network good

pub returns-clause-finalized_notarized : goal.returns-clause-finalized_notarized
returns-clause-finalized_notarized g c term_length network good =
    finalized_notarized g.D.PartialEq.eq g.met.D.Digest.equal_is_same g.L.Elector.elect term_length network good

pub returns-clause-chain_holds_finalized : goal.returns-clause-chain_holds_finalized
returns-clause-chain_holds_finalized g c term_length network good =
    chain_holds_finalized g.D.PartialEq.eq g.met.D.Digest.equal_is_same g.L.Elector.elect term_length network good
