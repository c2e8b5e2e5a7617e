-- of a network of hosts, by the network of their members
use Rattle.laws_hosts.proofs.Networks.{each_one_final, each_uncovered, each_chain_holds}
use Rattle.laws_hosts.proofs.agreement.hosts_agree.Goals as goal

pub returns-clause-one_final : goal.returns-clause-one_final
returns-clause-one_final g c =
    each_one_final g.D.PartialEq.eq g.L.Elector.elect g.S.CertificateScheme.certificate_bytes g.S.Scheme.IsSignature
    g.S.CertificateScheme.participants g.S.CertificateScheme.me g.L.Elector.terms
    c.agreement.ensures.one_proposal

pub returns-clause-finals_uncovered : goal.returns-clause-finals_uncovered
returns-clause-finals_uncovered g c =
    each_uncovered g.D.PartialEq.eq g.L.Elector.elect g.S.CertificateScheme.certificate_bytes g.S.Scheme.IsSignature
    g.S.CertificateScheme.participants g.S.CertificateScheme.me g.L.Elector.terms
    c.agreement.ensures.finalized_uncovered

pub returns-clause-chains_hold : goal.returns-clause-chains_hold
returns-clause-chains_hold g c =
    each_chain_holds g.D.PartialEq.eq g.L.Elector.elect g.S.CertificateScheme.certificate_bytes g.S.Scheme.IsSignature
    g.S.CertificateScheme.participants g.S.CertificateScheme.me g.L.Elector.terms
    c.agreement.ensures.chain_holds_finalized
