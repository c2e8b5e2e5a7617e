-- of the network of any members
use Rattle.laws_finals.proofs.Chains.{each_is_notarized, each_inside_terms}
use Rattle.laws_finals.proofs.finals.finals_are_notarized.Goals as goal

pub returns-clause-finals : goal.returns-clause-finals
returns-clause-finals g c =
    each_is_notarized g.D.PartialEq.eq g.L.Elector.elect g.S.CertificateScheme.certificate_bytes
    g.S.Scheme.IsSignature g.S.CertificateScheme.participants g.S.CertificateScheme.me g.L.Elector.terms
    g.L.Elector.elects_early g.met.D.Digest.equal_is_same

pub returns-clause-parents : goal.returns-clause-parents
returns-clause-parents g c =
    each_inside_terms g.D.PartialEq.eq g.L.Elector.elect g.S.CertificateScheme.certificate_bytes
    g.S.Scheme.IsSignature g.S.CertificateScheme.participants g.S.CertificateScheme.me g.L.Elector.terms
    g.L.Elector.elects_early g.met.D.Digest.equal_is_same
