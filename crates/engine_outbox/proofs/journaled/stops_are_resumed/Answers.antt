use Rattle.engine_outbox.proofs.Resumes.{each_goes_on}
use Rattle.engine_outbox.proofs.journaled.stops_are_resumed.Goals as goal

pub returns : goal.returns
returns g c = each_goes_on g.D.PartialEq.eq g.L.Elector.elect g.S.Scheme.IsSignature
    g.S.CertificateScheme.certificate_bytes g.S.CertificateScheme.me g.L.Elector.terms
