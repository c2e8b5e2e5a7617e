-- How the contract of `remake_by_view` follows: the state remade from the sorted copy, or the refusal, is that of a
-- copy by view.
use Rattle.simplex_record.specs.Entries.{entries_of}
use Rattle.simplex_record.specs.Start.{start_facts}
use Rattle.simplex_member.proofs.Restarts.{refused_by, of_value, of_error}
use Rattle.simplex_member.proofs.member.restart.remake_by_view.Goals as goal

pub returns-clause-remade : goal.returns-clause-remade
returns-clause-remade g c =
    of_value _ _ c.remake.result c.remake.ensures.recovered c.remake.ensures.accepted
    (λ made is accepted. (
      entries_of g.S.CertificateScheme.certificate_bytes c.deref.result.now,
      rw c.deref.ensures.value c.in-Ok.ensures,
      accepted,
      is,
    ))

pub returns-clause-refused : goal.returns-clause-refused
returns-clause-refused g c =
    let bytes_of = g.S.CertificateScheme.certificate_bytes in
    let start = start_facts g.S.CertificateScheme.me g.S.CertificateScheme.participants g.L.Elector.terms
    g.L.Elector.elects_early bytes_of c.args.start in
    of_error _ _ c.remake.result c.remake.ensures.refused
    (λ found due. refused_by g.D.PartialEq.eq start (entries_of bytes_of c.args.artifacts.now)
    (entries_of bytes_of c.deref.result.now) found (rw c.deref.ensures.value c.in-Ok.ensures) due)
