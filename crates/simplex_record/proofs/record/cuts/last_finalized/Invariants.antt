-- The loop of `last_finalized`: the entries that were met, and the remaining ones.
use Rattle.std.proofs.Common.{◌≡◌, max, drop}
use Rattle.simplex_record.specs.Entries.{entries_of}
use Rattle.simplex_record.specs.Cuts.{finalized_in}
use Rattle.simplex_record.proofs.record.cuts.last_finalized.Given as goal

abbrev pub invariant-loop-artifact : goal.invariant-loop-artifact
invariant-loop-artifact g l =
    max l.highest (finalized_in (entries_of g.S.CertificateScheme.certificate_bytes (drop l.artifact-index l.entries)))
    ≡ finalized_in (entries_of g.S.CertificateScheme.certificate_bytes l.entries)
