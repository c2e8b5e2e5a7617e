-- The loop of `check_entries`: what was seen decides the remaining entries.
use Rattle.std.proofs.Common.{drop}
use Rattle.simplex_record.specs.Entries.{entries_of}
use Rattle.simplex_record.proofs.CheckState.{Tested}
use Rattle.simplex_record.proofs.record.check.check_entries.Given as goal

abbrev pub invariant-loop-artifact : goal.invariant-loop-artifact
invariant-loop-artifact g l =
    Tested g.D.PartialEq.eq l.epoch (g.S.CertificateScheme.me l.scheme)
    (entries_of g.S.CertificateScheme.certificate_bytes l.entries)
    (entries_of g.S.CertificateScheme.certificate_bytes (drop l.artifact-index l.entries)) l.seen
