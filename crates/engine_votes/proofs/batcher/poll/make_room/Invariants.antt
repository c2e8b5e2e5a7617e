use Rattle.std.proofs.Common.{◌+◌, ◌-◌, vec_len}
use Rattle.engine_votes.specs.Polls.{HoldsTheSame}
use Rattle.engine_votes.proofs.batcher.poll.make_room.Given as goal

abbrev pub invariant-loop-slots : goal.invariant-loop-slots
invariant-loop-slots g l = HoldsTheSame l.initial.slots.items l.slots.items

abbrev pub decreases-loop-slots : goal.decreases-loop-slots
decreases-loop-slots g l = (l.member + 1) - vec_len l.slots
