-- from parent to parent
use Rattle.laws_finals.proofs.Chains.{each_lifetime_reaches_genesis, each_reaches_genesis}
use Rattle.laws_finals.proofs.finals.finals_reach_genesis.Goals as goal

pub returns-clause-lifetimes : goal.returns-clause-lifetimes
returns-clause-lifetimes g c =
    each_lifetime_reaches_genesis g.D.PartialEq.eq g.L.Elector.elect g.S.CertificateScheme.certificate_bytes
    g.S.Scheme.IsSignature g.S.CertificateScheme.participants g.S.CertificateScheme.me g.L.Elector.terms
    g.L.Elector.elects_early g.met.D.Digest.equal_is_same

pub returns-clause-members : goal.returns-clause-members
returns-clause-members g c =
    each_reaches_genesis g.D.PartialEq.eq g.L.Elector.elect g.S.CertificateScheme.certificate_bytes
    g.S.Scheme.IsSignature g.S.CertificateScheme.participants g.S.CertificateScheme.me g.L.Elector.terms
    g.L.Elector.elects_early g.met.D.Digest.equal_is_same
