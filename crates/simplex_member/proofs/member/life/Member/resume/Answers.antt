-- How the contract of `resume` follows: entries that were lost and a retention that grew refuse it; else it is the
-- restart that drops and prunes nothing.
use Rattle.std.proofs.Common.{◌≡◌, ◌∙◌, sym, false}
use Rattle.simplex_record.specs.Entries.{entries_of}
use Rattle.simplex_member.specs.Journal.{has_lost}
use Rattle.simplex_record.specs.Start.{start_facts}
use Rattle.simplex_member.proofs.Journal.{grown, refused, resumed}
use Rattle.simplex_member.proofs.member.life.Member.resume.Goals as goal

pub returns-then-has_lost-clause-refused : goal.returns-then-has_lost-clause-refused
returns-then-has_lost-clause-refused g c = rw (← c.deref.ensures.value) (sym c.has_lost.ensures ∙ c.if-has_lost.true)

pub returns-then-retention_grows-clause-refused : goal.returns-then-retention_grows-clause-refused
returns-then-retention_grows-clause-refused g c =
    let bytes_of = g.S.CertificateScheme.certificate_bytes in
    let start = start_facts g.S.CertificateScheme.me g.S.CertificateScheme.participants g.L.Elector.terms
    g.L.Elector.elects_early bytes_of c.args.start in
    let whole : has_lost c.args.stored (entries_of bytes_of c.args.entries.items) ≡ false =
    rw (← c.deref.ensures.value) (sym c.has_lost.ensures ∙ c.if-has_lost.false) in
    rw c.not_recovered.ensures.error
    (grown g.D.PartialEq.eq g.L.Elector.elect c.args.stored (entries_of bytes_of c.args.entries.items) start whole
    (rw (← c.retention_of-retention.ensures) (sym c.retention_grows.ensures ∙ c.if-retention_grows.true)))

pub returns-in-Ok-clause-resumed : goal.returns-in-Ok-clause-resumed
returns-in-Ok-clause-resumed g c =
    let bytes_of = g.S.CertificateScheme.certificate_bytes in
    let start = start_facts g.S.CertificateScheme.me g.S.CertificateScheme.participants g.L.Elector.terms
    g.L.Elector.elects_early bytes_of c.args.start in
    let whole : has_lost c.args.stored (entries_of bytes_of c.args.entries.items) ≡ false =
    rw (← c.deref.ensures.value) (sym c.has_lost.ensures ∙ c.if-has_lost.false) in
    rw (c.lesser.ensures, c.retention_of-retention.ensures, c.new.ensures)
    (resumed g.D.PartialEq.eq g.L.Elector.elect c.args.stored (entries_of bytes_of c.args.entries.items) start whole
    (rw (← c.retention_of-retention.ensures) (sym c.retention_grows.ensures ∙ c.if-retention_grows.false))
    c.in-Ok.state.value _ c.in-Ok.ensures.renewed c.in-Ok.ensures.recorded)

pub returns-in-Err-clause-refused : goal.returns-in-Err-clause-refused
returns-in-Err-clause-refused g c =
    let bytes_of = g.S.CertificateScheme.certificate_bytes in
    let start = start_facts g.S.CertificateScheme.me g.S.CertificateScheme.participants g.L.Elector.terms
    g.L.Elector.elects_early bytes_of c.args.start in
    let whole : has_lost c.args.stored (entries_of bytes_of c.args.entries.items) ≡ false =
    rw (← c.deref.ensures.value) (sym c.has_lost.ensures ∙ c.if-has_lost.false) in
    rw c.not_recovered-in-Err.ensures.error
    (refused g.D.PartialEq.eq g.L.Elector.elect c.args.stored (entries_of bytes_of c.args.entries.items) start whole
    (rw (← c.retention_of-retention.ensures) (sym c.retention_grows.ensures ∙ c.if-retention_grows.false))
    c.in-Err.error c.in-Err.ensures.refused)
