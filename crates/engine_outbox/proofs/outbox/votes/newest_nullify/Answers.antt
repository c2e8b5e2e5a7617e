use Rattle.std.proofs.Common.{◌<◌, length, arith}
use Rattle.engine_outbox.proofs.CopiedEntries.{newest_step}
use Rattle.engine_outbox.proofs.outbox.votes.newest_nullify.Goals as goal

pub loop-entry-preserved : goal.loop-entry-preserved
loop-entry-preserved g c =
    let within : c.loop-entry.entry-index < length c.args.entries.now = omega arith in
    newest_step c.args.entries.now c.loop-entry.entry-index c.entry-item.result c.loop-entry.newest _ _ within
    c.entry-item.is c.in_ok-newest.ensures c.loop-entry.invariant
