-- by what a member has offered over all its lifetimes, and what the calls of a process returned
use Rattle.laws_meetings.proofs.AwaitedVerdicts.{verdicts_awaited}
use Rattle.laws_meetings.proofs.meetings.verdicts_are_awaited.Goals as goal

pub returns : goal.returns
returns g c =
    verdicts_awaited g.D.PartialEq.eq g.met.D.Digest.equal_is_same g.met.D.Digest.same_is_equal g.L.Elector.elect
    g.D.Digest.bytes g.S.CertificateScheme.certificate_bytes g.S.Scheme.IsSignature g.S.CertificateScheme.participants
    g.S.CertificateScheme.me g.L.Elector.terms
