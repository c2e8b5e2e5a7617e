-- by the polls so far
use Rattle.laws_meetings.proofs.LoneRounds.{polled_to_end, polled_more}
use Rattle.laws_meetings.proofs.instances.poll_until_none.Goals as goal

pub returns-then-branch : goal.returns-then-branch
returns-then-branch g c = λ yes.
    polled_to_end g.D.PartialEq.eq g.L.Elector.elect g.S.CertificateScheme.certificate_bytes g.S.Scheme.IsSignature
    g.S.CertificateScheme.participants _ _ _ c.in_ok-is_done.field-0 c.if-branch.true c.in_ok-is_done.ensures
    c.loop-turn.invariant

pub loop-turn-preserved : goal.loop-turn-preserved
loop-turn-preserved g c =
    polled_more g.D.PartialEq.eq g.L.Elector.elect g.S.CertificateScheme.certificate_bytes g.S.Scheme.IsSignature
    g.S.CertificateScheme.participants _ _ _ c.in_ok-is_done.field-0 c.if-branch.false c.in_ok-is_done.ensures
    c.loop-turn.invariant
