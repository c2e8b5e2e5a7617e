-- by the offer that is open at each verdict
use Rattle.laws_chains.proofs.Offers.{offers_awaited}
use Rattle.laws_chains.proofs.chains.verdicts_on_offers_await_parents.Goals as goal

pub returns : goal.returns
returns g c term_length network good = offers_awaited g.D.PartialEq.eq g.met.D.Digest.equal_is_same g.L.Elector.elect
    term_length network good
