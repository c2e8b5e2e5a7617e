-- by the member that the engine begins with
use Rattle.laws_finals.proofs.LoneStarts.{keeps_premises}
use Rattle.laws_finals.proofs.instances.start_alone.Goals as goal

pub returns : goal.returns
returns g c =
    keeps_premises g.D.PartialEq.eq g.L.Elector.elect g.S.CertificateScheme.certificate_bytes
    g.S.CertificateScheme.participants g.S.CertificateScheme.me g.L.Elector.terms g.L.Elector.elects_early c.args.start
    c.start.result c.requires.late c.requires.accepted c.start.ensures.started
