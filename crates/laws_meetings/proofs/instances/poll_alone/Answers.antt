-- by the polls until one returned nothing
use Rattle.laws_safety.proofs.executions.ExecutionSteps.{if_ok_on}
use Rattle.laws_meetings.proofs.LoneRounds.{lone_made}
use Rattle.laws_meetings.proofs.instances.poll_alone.Goals as goal

pub returns : goal.returns
returns g c =
    if_ok_on c.poll_until_none.result (λ is_at_rest polled yes.
    lone_made g.D.PartialEq.eq g.L.Elector.elect g.S.CertificateScheme.certificate_bytes g.S.Scheme.IsSignature
    g.S.CertificateScheme.participants g.S.CertificateScheme.me g.L.Elector.terms _ _ (polled yes))
    c.poll_until_none.ensures
