-- what a member has done stays after its record is pruned
use Rattle.laws_safety.proofs.executions.ExecutionSteps.{prune_done}
use Rattle.lawful_member.proofs.lawful.member.LawfulMember.prune_record.Goals as goal

pub returns-clause-pruned : goal.returns-clause-pruned
returns-clause-pruned g c = rw (← c.self.view_is) c.prune_record.ensures.pruned

pub returns-clause-votes : goal.returns-clause-votes
returns-clause-votes g c = rw (← c.self.view_is) c.prune_record.ensures.votes

pub returns-clause-continues : goal.returns-clause-continues
returns-clause-continues g c term_length i all done =
    rw c.prune_record.ensures.pruned (prune_done g.D.PartialEq.eq g.L.Elector.elect term_length i
    c.self.inside.member.facts all (rw c.self.view_is done))
