use Rattle.std.proofs.Common.{◌<◌, length, arith}
use Rattle.engine_outbox.proofs.CopiedEntries.{copies_more}
use Rattle.engine_outbox.proofs.outbox.votes.copies.Goals as goal

pub loop-entry-preserved : goal.loop-entry-preserved
loop-entry-preserved g c =
    let within : c.loop-entry.entry-index < length c.args.entries.now = omega arith in
    let more = copies_more g.S.CertificateScheme.certificate_bytes c.args.entries.now c.loop-entry.copies.items
    c.loop-entry.entry-index c.entry-item.result c.in-Ok.copy within c.entry-item.is c.in-Ok.ensures.same
    c.in-Ok.ensures.signature c.loop-entry.invariant in
    (rw c.in_ok-push.ensures.items more.0, rw c.in_ok-push.ensures.items more.1)
