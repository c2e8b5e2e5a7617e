-- so far the engine was polled
use Rattle.laws_meetings.proofs.LoneRounds.{HasPolled}
use Rattle.laws_meetings.proofs.instances.poll_until_none.Given as goal

abbrev pub invariant-loop-turn : goal.invariant-loop-turn
invariant-loop-turn g l =
    HasPolled g.D.PartialEq.eq g.L.Elector.elect g.S.CertificateScheme.certificate_bytes g.S.Scheme.IsSignature
    g.S.CertificateScheme.participants l.fn.engine l.engine
