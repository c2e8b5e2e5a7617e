-- by what a certificate shows of each state
use Rattle.laws_rounds.proofs.FinalizedViews.{finalizations_show}
use Rattle.laws_rounds.proofs.Spread.{spreads}
use Rattle.laws_rounds.proofs.rounds.finality_spreads.Goals as goal

pub returns : goal.returns
returns g c =
    spreads g.D.PartialEq.eq g.L.Elector.elect g.S.CertificateScheme.certificate_bytes g.S.Scheme.IsSignature
    g.S.CertificateScheme.participants _ _ (finalizations_show g.D.PartialEq.eq g.L.Elector.elect)
    g.S.CertificateScheme.me g.L.Elector.terms c.rounds_keep_networks.ensures
