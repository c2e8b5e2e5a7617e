use Rattle.laws_hosts.proofs.Hosts.{votes_keep_rules}
use Rattle.laws_hosts.proofs.agreement.hosts_keep_voting_rules.Goals as goal

pub returns : goal.returns
returns g c =
    votes_keep_rules g.D.PartialEq.eq g.L.Elector.elect g.S.CertificateScheme.certificate_bytes g.S.Scheme.IsSignature
    g.S.CertificateScheme.participants
    g.S.CertificateScheme.me g.L.Elector.terms g.met.D.Digest.equal_is_same
