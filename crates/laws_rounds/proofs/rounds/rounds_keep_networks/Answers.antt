-- each round is steps
use Rattle.laws_rounds.proofs.RoundSteps.{rounds_keep}
use Rattle.laws_rounds.proofs.rounds.rounds_keep_networks.Goals as goal

pub returns : goal.returns
returns g c =
    rounds_keep g.D.PartialEq.eq g.L.Elector.elect g.S.CertificateScheme.certificate_bytes g.S.Scheme.IsSignature
    g.S.CertificateScheme.participants g.S.CertificateScheme.me g.L.Elector.terms
    c.host_steps_keep_networks.ensures.steps
