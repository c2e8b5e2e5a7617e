use Rattle.std.proofs.Common.{◌≡◌}
use Rattle.engine_votes.specs.Polls.{signatures_on}
use Rattle.engine_votes.proofs.batcher.poll.collect_on.Given as goal

abbrev pub invariant-loop-member : goal.invariant-loop-member
invariant-loop-member g l = l.signatures.items ≡ signatures_on g.D.PartialEq.eq l.subject l.member l.slots
