use Rattle.engine_outbox.proofs.Lawfully.{replied_lawful}
use Rattle.engine_outbox.proofs.Queued.{replied_more}
use Rattle.engine_outbox.proofs.outbox.Outbox.tell.Goals as goal

pub returns-clause-continues : goal.returns-clause-continues
returns-clause-continues g c = λ given lawful.
    replied_lawful given c.args.self.now c.queue_final.new.self lawful c.args.finalized c.queue_final.ensures

pub returns-clause-grown : goal.returns-clause-grown
returns-clause-grown g c = replied_more c.args.finalized c.args.self.now c.queue_final.new.self c.queue_final.ensures
