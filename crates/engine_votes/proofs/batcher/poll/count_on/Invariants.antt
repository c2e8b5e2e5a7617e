use Rattle.std.proofs.Common.{◌≡◌, ◌≤◌, length}
use Rattle.engine_votes.specs.Polls.{signatures_on}
use Rattle.engine_votes.proofs.batcher.poll.count_on.Given as goal

abbrev pub invariant-loop-member : goal.invariant-loop-member
invariant-loop-member g l = record {
  counted : l.count ≡ length (signatures_on g.D.PartialEq.eq l.subject l.member l.slots);
  few : l.count ≤ l.member;
}
