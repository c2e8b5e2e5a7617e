-- The loop of `lowest_of`: what was met and what is left to be met.
use Rattle.std.proofs.Common.{◌≡◌, drop}
use Rattle.simplex_record.specs.Entries.{entries_of}
use Rattle.engine_outbox.specs.RecordReach.{lowest_of}
use Rattle.engine_outbox.proofs.journaled.reach.lowest_of.Given as goal

abbrev pub invariant-loop-entry : goal.invariant-loop-entry
invariant-loop-entry g l =
    lowest_of l.lowest (entries_of g.S.CertificateScheme.certificate_bytes (drop l.entry-index l.entries))
    ≡ lowest_of l.fn.view (entries_of g.S.CertificateScheme.certificate_bytes l.entries)
