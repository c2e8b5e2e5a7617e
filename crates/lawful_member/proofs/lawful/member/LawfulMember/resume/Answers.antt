-- from what `Member::resume` ensures
use Rattle.std.proofs.Common.{Ok, false}
use Rattle.simplex_record.specs.Entries.{entries_of}
use Rattle.simplex_member.specs.Journal.{whole_restart}
use Rattle.simplex_record.specs.Start.{start_facts}
use Rattle.simplex_member.specs.declared.member.restart.Restart.{Restart}
use Rattle.laws_safety.specs.ObservedTraces.{floor_in}
use Rattle.laws_safety.proofs.executions.ExecutionSteps.{restart_done}
use Rattle.laws_safety.proofs.records.Resumes.{resumed_restart}
use Rattle.laws_safety.proofs.executions.Shown.{begins_as, restart_shown}
use Rattle.lawful_member.proofs.lawful.member.LawfulMember.resume.Goals as goal

pub returns-in-Ok-clause-continues : goal.returns-in-Ok-clause-continues
returns-in-Ok-clause-continues g c m same_stored same_entries term_length i all holds done =
    let me = g.S.CertificateScheme.me in
    let participants = g.S.CertificateScheme.participants in
    let terms = g.L.Elector.terms in
    let early = g.L.Elector.elects_early in
    let bytes_of = g.S.CertificateScheme.certificate_bytes in
    let same = g.D.PartialEq.eq in
    let elect = g.L.Elector.elect in
    let start = start_facts me participants terms early bytes_of c.args.start in
    let again : Restart _ _ _ _ _ _ = record { drop = 0; prune = false; start = c.args.start } in
    let restarted = resumed_restart same elect start c.args.stored (entries_of bytes_of c.args.entries.items) m
    c.in-Ok.member.facts same_stored same_entries c.in-Ok.ensures.resumed in
    restart_done same elect term_length i m c.in-Ok.member.facts (whole_restart start) (Ok tt) all
    (floor_in c.args.start.floor) restarted
    (begins_as me participants terms early bytes_of term_length i c.args.start holds)
    (restart_shown me participants terms early bytes_of again (Ok tt)) done
