-- How the contract of `make_room` follows: moving the newest value among the others keeps all entries.
use Rattle.std.proofs.Common.{sym, ◌∙◌}
use Rattle.simplex_member.proofs.PendingValues.{entries-insert}
use Rattle.simplex_member.proofs.member.pending.Pending.make_room.Goals as goal

pub returns-in-Some-clause-same : goal.returns-in-Some-clause-same
returns-in-Some-clause-same g c =
    let newest = sym c.take.ensures.value ∙ c.in-Some.is in
    let moved = rw c.take.ensures.after at c.move_over.ensures.entries in
    rw (← c.self.view_is, newest)
    (moved ∙ sym (entries-insert c.self.inside.others c.in-Some.newest.0 c.in-Some.newest.1))
