use Rattle.engine_outbox.proofs.Lawfully.{by_result, pushed_lawful, stayed_lawful}
use Rattle.engine_outbox.proofs.Queued.{become_more, stayed_more}
use Rattle.engine_outbox.proofs.outbox.Outbox.push.Goals as goal

pub returns-clause-continues : goal.returns-clause-continues
returns-clause-continues g c = λ given lawful.
    by_result c.queue_work.result c.queue_work.ensures.queued c.queue_work.ensures.kept
    (pushed_lawful given c.args.self.now c.queue_work.new.self lawful c.args.work)
    (stayed_lawful given c.args.self.now c.queue_work.new.self lawful)

pub returns-clause-grown : goal.returns-clause-grown
returns-clause-grown g c = by_result c.queue_work.result c.queue_work.ensures.queued c.queue_work.ensures.kept
    become_more (stayed_more c.args.self.now c.queue_work.new.self)
