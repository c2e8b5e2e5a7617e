-- from what `Member::restart` ensures
use Rattle.simplex_member.specs.Restarts.{restart_facts}
use Rattle.laws_safety.specs.ObservedTraces.{begun_by}
use Rattle.laws_safety.proofs.executions.ExecutionSteps.{restart_done}
use Rattle.laws_safety.proofs.executions.Shown.{begins_as, restart_shown}
use Rattle.lawful_member.proofs.lawful.member.LawfulMember.restart.Goals as goal

pub returns-clause-restarted : goal.returns-clause-restarted
returns-clause-restarted g c = rw (← c.self.view_is) c.restart.ensures.restarted

pub returns-clause-continues : goal.returns-clause-continues
returns-clause-continues g c term_length i all holds done =
    restart_done g.D.PartialEq.eq g.L.Elector.elect term_length i c.self.inside.member.facts c.restart.new.self.facts
    (restart_facts g.S.CertificateScheme.me g.S.CertificateScheme.participants g.L.Elector.terms
    g.L.Elector.elects_early g.S.CertificateScheme.certificate_bytes c.args.restart) c.restart.result all
    (begun_by c.args.restart.start c.restart.result) c.restart.ensures.restarted
    (begins_as g.S.CertificateScheme.me g.S.CertificateScheme.participants g.L.Elector.terms g.L.Elector.elects_early
    g.S.CertificateScheme.certificate_bytes term_length i c.args.restart.start holds)
    (restart_shown g.S.CertificateScheme.me g.S.CertificateScheme.participants g.L.Elector.terms
    g.L.Elector.elects_early g.S.CertificateScheme.certificate_bytes c.args.restart c.restart.result)
    (rw c.self.view_is done)
