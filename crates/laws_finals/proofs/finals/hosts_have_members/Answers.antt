-- by the engine's contract
use Rattle.laws_finals.proofs.Chains.{each_has_members}
use Rattle.laws_finals.proofs.finals.hosts_have_members.Goals as goal

pub returns : goal.returns
returns g c =
    each_has_members g.D.PartialEq.eq g.L.Elector.elect g.S.CertificateScheme.certificate_bytes
    g.S.Scheme.IsSignature g.S.CertificateScheme.participants g.S.CertificateScheme.me g.L.Elector.terms
    g.L.Elector.elects_early g.met.D.Digest.equal_is_same
