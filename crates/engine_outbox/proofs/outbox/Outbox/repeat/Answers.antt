use Rattle.engine_outbox.proofs.Lawfully.{by_answer, repeated_lawful, stayed_lawful}
use Rattle.engine_outbox.proofs.Queued.{repeated_more, stayed_more}
use Rattle.engine_outbox.proofs.outbox.Outbox.repeat.Goals as goal

pub returns-clause-continues : goal.returns-clause-continues
returns-clause-continues g c = λ given lawful.
    by_answer c.queue_repeat.result c.queue_repeat.ensures.queued c.queue_repeat.ensures.kept
    (repeated_lawful given c.args.self.now c.queue_repeat.new.self lawful c.args.view)
    (stayed_lawful given c.args.self.now c.queue_repeat.new.self lawful)

pub returns-clause-grown : goal.returns-clause-grown
returns-clause-grown g c =
    by_answer c.queue_repeat.result c.queue_repeat.ensures.queued c.queue_repeat.ensures.kept
    (repeated_more c.args.view c.args.self.now.repeat c.args.self.now c.queue_repeat.new.self)
    (stayed_more c.args.self.now c.queue_repeat.new.self)
