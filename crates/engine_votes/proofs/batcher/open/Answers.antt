use Rattle.engine_votes.proofs.StoredVotes.{opened}
use Rattle.engine_votes.proofs.batcher.open.Goals as goal

pub returns-in-Ok-clause-open : goal.returns-in-Ok-clause-open
returns-in-Ok-clause-open g c = (opened c.args.polls.now c.args.view c.new.result c.new.ensures.items c.in-Ok._standing
    c.in-Ok.ensures.standing c.insert.new.self c.in-Ok.ensures.after).0

pub returns-in-Ok-clause-same : goal.returns-in-Ok-clause-same
returns-in-Ok-clause-same g c = (opened c.args.polls.now c.args.view c.new.result c.new.ensures.items c.in-Ok._standing
    c.in-Ok.ensures.standing c.insert.new.self c.in-Ok.ensures.after).1
