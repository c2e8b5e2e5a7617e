-- How the contract of `go_on` follows: the state is remade from the record by view, or the error that applies leaves
-- the member failed.
use Rattle.std.proofs.lemmas.Result.{err_from_is_err_and}
use Rattle.simplex_record.specs.Entries.{entries_of}
use Rattle.simplex_member.specs.MemberFacts.{MemberFacts, living, open_while}
use Rattle.simplex_record.specs.Start.{start_facts}
use Rattle.simplex_member.proofs.Restarts.{not_gone_on, gone_on}
use Rattle.simplex_member.proofs.member.life.Member.go_on.Goals as goal

pub returns-in_err-state-clause-continues : goal.returns-in_err-state-clause-continues
returns-in_err-state-clause-continues g c =
    let bytes_of = g.S.CertificateScheme.certificate_bytes in
    let start = start_facts g.S.CertificateScheme.me g.S.CertificateScheme.participants g.L.Elector.terms
    g.L.Elector.elects_early bytes_of c.args.start in
    let i = c.self.inside in
    let m : MemberFacts _ _ _ = record {
      life = living i.failed i.state.value;
      outstanding_work = open_while i.failed i.outstanding_work.open_now;
      entries = entries_of bytes_of i.artifacts.items;
      closed = i.closed;
      is_pruned = i.is_pruned;
      retention = i.retention;
      least_retention = i.least_retention;
    } in
    let p = err_from_is_err_and c.from_residual.result c.from_residual.ensures.1 in
    rw (← c.self.view_is, p.1, p.2, c.in_err-state.ensures.same)
    (not_gone_on g.D.PartialEq.eq g.L.Elector.elect m start c.in_err-state.field-0.0 c.in_err-state.ensures.refused)

pub returns-clause-continues : goal.returns-clause-continues
returns-clause-continues g c =
    let bytes_of = g.S.CertificateScheme.certificate_bytes in
    let start = start_facts g.S.CertificateScheme.me g.S.CertificateScheme.participants g.L.Elector.terms
    g.L.Elector.elects_early bytes_of c.args.start in
    let i = c.self.inside in
    let m : MemberFacts _ _ _ = record {
      life = living i.failed i.state.value;
      outstanding_work = open_while i.failed i.outstanding_work.open_now;
      entries = entries_of bytes_of i.artifacts.items;
      closed = i.closed;
      is_pruned = i.is_pruned;
      retention = i.retention;
      least_retention = i.least_retention;
    } in
    rw (← c.self.view_is, c.lesser-self-inside.ensures, c.retention_of-retention.ensures, c.new.ensures)
    (gone_on g.D.PartialEq.eq g.L.Elector.elect m start c.in_ok-state.state.value _ c.in_ok-state.ensures.renewed
    c.in_ok-state.ensures.recorded)
