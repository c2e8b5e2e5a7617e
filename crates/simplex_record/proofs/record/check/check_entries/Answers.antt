-- How the contract of `check_entries` follows: what was seen decides the next entry, and the first one that breaks a
-- rule is the record's error.
use Rattle.std.proofs.Common.{drop, ◌+◌}
use Rattle.std.proofs.lemmas.Result.{err_from_is_err_and}
use Rattle.simplex_types.specs.Certificates.{artifact_facts}
use Rattle.simplex_record.specs.Entries.{entries_of}
use Rattle.simplex_record.proofs.CheckState.{tested_none, tested_next, stopped, entries_from}
use Rattle.simplex_record.proofs.record.check.check_entries.Goals as goal

pub loop-artifact-init : goal.loop-artifact-init
loop-artifact-init g c =
    rw (c.new-seen.ensures, c.zero.ensures)
    (tested_none g.D.PartialEq.eq c.args.epoch (g.S.CertificateScheme.me c.args.scheme.now)
    (entries_of g.S.CertificateScheme.certificate_bytes c.args.entries.now))

pub loop-artifact-preserved : goal.loop-artifact-preserved
loop-artifact-preserved g c =
    let bytes_of = g.S.CertificateScheme.certificate_bytes in
    let more = entries_from bytes_of c.args.entries.now c.loop-artifact.artifact-index c.artifact-item.result
    c.artifact-item.is c.loop-artifact-test.true in
    rw c.in_ok-check_next.ensures.seen
    (tested_next g.D.PartialEq.eq g.met.D.Digest.equal_is_same c.args.epoch (g.S.CertificateScheme.me c.args.scheme.now)
    (entries_of bytes_of c.args.entries.now)
    (entries_of bytes_of (drop (c.loop-artifact.artifact-index + 1) c.args.entries.now)) c.loop-artifact.seen
    (artifact_facts bytes_of c.artifact-item.result)
    (rw more at c.loop-artifact.invariant) c.in_ok-check_next.ensures.kept)

pub returns-in_err-check_next-clause-broken : goal.returns-in_err-check_next-clause-broken
returns-in_err-check_next-clause-broken g c =
    let bytes_of = g.S.CertificateScheme.certificate_bytes in
    let more = entries_from bytes_of c.args.entries.now c.loop-artifact.artifact-index c.artifact-item.result
    c.artifact-item.is c.loop-artifact-test.true in
    let p = err_from_is_err_and c.from_residual.result c.from_residual.ensures.1 in
    rw (p.1, p.2)
    (stopped g.D.PartialEq.eq c.args.epoch (g.S.CertificateScheme.me c.args.scheme.now)
    (entries_of bytes_of c.args.entries.now)
    (entries_of bytes_of (drop (c.loop-artifact.artifact-index + 1) c.args.entries.now)) c.loop-artifact.seen
    (artifact_facts bytes_of c.artifact-item.result) _
    (rw more at c.loop-artifact.invariant) c.in_err-check_next.ensures.broken)
