use Rattle.std.proofs.Common.{take}
use Rattle.engine_outbox.specs.Entries.{AreCopies}
use Rattle.engine_outbox.proofs.outbox.votes.copies.Given as goal

abbrev pub invariant-loop-entry : goal.invariant-loop-entry
invariant-loop-entry g l = AreCopies g.S.CertificateScheme.certificate_bytes (take l.entry-index l.entries)
    l.copies.items
