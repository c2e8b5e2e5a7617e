-- How the contract of `lowest_of` follows: the lowest view so far and the rest's lowest are that of all.
use Rattle.std.proofs.Common.{◌∙◌, ◌+◌, drop, ap}
use Rattle.simplex_record.specs.Entries.{entries_of}
use Rattle.engine_outbox.specs.RecordReach.{lowest_of}
use Rattle.engine_outbox.proofs.RecordReach.{lowest_next}
use Rattle.engine_outbox.proofs.journaled.reach.lowest_of.Goals as goal

pub loop-entry-preserved : goal.loop-entry-preserved
loop-entry-preserved g c =
    let bytes_of = g.S.CertificateScheme.certificate_bytes in
    let entries = c.args.entries.now in
    let i = c.loop-entry.entry-index in
    ap (λ v. lowest_of v (entries_of bytes_of (drop (i + 1) entries))) c.earlier_of-lowest.ensures
    ∙ lowest_next bytes_of entries i c.entry-item.result c.loop-entry.lowest c.view.result c.entry-item.is
    c.loop-entry-test.true c.view.ensures
    ∙ c.loop-entry.invariant
