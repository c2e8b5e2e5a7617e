-- by what each of the two engines did
use Rattle.laws_safety.proofs.executions.ExecutionSteps.{if_ok_on}
use Rattle.laws_meetings.proofs.TwoHosts.{two_settled}
use Rattle.laws_meetings.proofs.instances.deliver_to_two.Goals as goal

pub returns-then-branch : goal.returns-then-branch
returns-then-branch g c =
    if_ok_on c.settle-then-branch.result (λ are_at_rest other yes.
    two_settled g.D.PartialEq.eq g.L.Elector.elect g.S.CertificateScheme.certificate_bytes g.S.Scheme.IsSignature
    g.S.CertificateScheme.participants g.S.CertificateScheme.me g.L.Elector.terms c.args.to_first c.args.to_second _ _ _
    _ (c.in_ok-settle.ensures c.if-branch.true) (other yes)) c.settle-then-branch.ensures
