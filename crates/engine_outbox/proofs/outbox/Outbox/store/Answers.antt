use Rattle.engine_outbox.proofs.Lawfully.{by_result, stored_lawful, stayed_lawful}
use Rattle.engine_outbox.proofs.Queued.{become_more, stayed_more}
use Rattle.engine_outbox.proofs.outbox.Outbox.store.Goals as goal

pub returns-clause-continues : goal.returns-clause-continues
returns-clause-continues g c = λ given lawful.
    by_result c.queue_entries.result c.queue_entries.ensures.queued c.queue_entries.ensures.kept
    (stored_lawful given c.args.self.now c.queue_entries.new.self lawful g.S.CertificateScheme.certificate_bytes
    c.args.fresh.now)
    (stayed_lawful given c.args.self.now c.queue_entries.new.self lawful)

pub returns-clause-grown : goal.returns-clause-grown
returns-clause-grown g c = by_result c.queue_entries.result c.queue_entries.ensures.queued c.queue_entries.ensures.kept
    (λ is. become_more is.2) (stayed_more c.args.self.now c.queue_entries.new.self)
