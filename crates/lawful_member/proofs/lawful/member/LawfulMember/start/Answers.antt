-- from what `Member::start` ensures
use Rattle.simplex_record.specs.Start.{start_facts}
use Rattle.laws_safety.specs.ObservedTraces.{floor_in}
use Rattle.laws_safety.proofs.executions.ExecutionSteps.{start_done}
use Rattle.laws_safety.proofs.executions.Shown.{begins_as, start_shown}
use Rattle.lawful_member.proofs.lawful.member.LawfulMember.start.Goals as goal

pub returns-clause-begins : goal.returns-clause-begins
returns-clause-begins g c term_length i holds =
    start_done g.D.PartialEq.eq g.L.Elector.elect term_length i
    (start_facts g.S.CertificateScheme.me g.S.CertificateScheme.participants g.L.Elector.terms
    g.L.Elector.elects_early g.S.CertificateScheme.certificate_bytes c.args.start) c.in_ok-start.field-0.facts
    (floor_in c.args.start.floor) (begins_as g.S.CertificateScheme.me g.S.CertificateScheme.participants
    g.L.Elector.terms g.L.Elector.elects_early g.S.CertificateScheme.certificate_bytes term_length i c.args.start
    holds) c.in_ok-start.ensures.accepted c.in_ok-start.ensures.started
    (start_shown g.S.CertificateScheme.me g.S.CertificateScheme.participants g.L.Elector.terms
    g.L.Elector.elects_early g.S.CertificateScheme.certificate_bytes c.args.start)
