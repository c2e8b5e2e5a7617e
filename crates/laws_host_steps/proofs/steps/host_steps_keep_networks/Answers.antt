-- For each length of terms.
use Rattle.laws_host_steps.proofs.HostSteps.{all_steps, begun_hosts}
use Rattle.laws_host_steps.proofs.steps.host_steps_keep_networks.Goals as goal

pub returns-clause-begun : goal.returns-clause-begun
returns-clause-begun g c = λ term_length.
    begun_hosts g.D.PartialEq.eq g.L.Elector.elect g.S.CertificateScheme.certificate_bytes g.S.Scheme.IsSignature
    g.S.CertificateScheme.participants g.S.CertificateScheme.me g.L.Elector.terms term_length

pub returns-clause-steps : goal.returns-clause-steps
returns-clause-steps g c = λ term_length.
    all_steps g.D.PartialEq.eq g.L.Elector.elect g.S.CertificateScheme.certificate_bytes g.S.Scheme.IsSignature
    g.S.CertificateScheme.participants g.S.CertificateScheme.me g.L.Elector.terms term_length
