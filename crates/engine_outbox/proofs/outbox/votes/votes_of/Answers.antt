use Rattle.std.proofs.Common.{◌<◌, ◌≤◌, length, arith}
use Rattle.engine_outbox.proofs.CopiedEntries.{votes_step, votes_end}
use Rattle.engine_outbox.proofs.outbox.votes.votes_of.Goals as goal

pub loop-entry-preserved : goal.loop-entry-preserved
loop-entry-preserved g c =
    let within : c.loop-entry.entry-index < length c.args.entries.now = omega arith in
    votes_step c.args.entries.now c.loop-entry.entry-index c.entry-item.result c.loop-entry.votes.items
    c.push_vote.new.votes.items _ within c.entry-item.is c.in_ok-push_vote.ensures c.loop-entry.invariant

pub returns : goal.returns
returns g c =
    let past : length c.args.entries.now ≤ c.loop-entry.entry-index = omega arith in
    votes_end c.args.entries.now c.loop-entry.entry-index c.loop-entry.votes.items _ past c.loop-entry.invariant
