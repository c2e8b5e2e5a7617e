use Rattle.engine_outbox.proofs.Lawfully.{by_result, replaced_lawful, stayed_lawful}
use Rattle.engine_outbox.proofs.Queued.{become_more, stayed_more}
use Rattle.engine_outbox.proofs.outbox.Outbox.replace.Goals as goal

pub returns-clause-continues : goal.returns-clause-continues
returns-clause-continues g c = λ given lawful.
    by_result c.queue_record.result c.queue_record.ensures.queued c.queue_record.ensures.kept
    (replaced_lawful given c.args.self.now c.queue_record.new.self lawful g.S.CertificateScheme.certificate_bytes
    c.args.all.now c.args.beside)
    (stayed_lawful given c.args.self.now c.queue_record.new.self lawful)

pub returns-clause-grown : goal.returns-clause-grown
returns-clause-grown g c = by_result c.queue_record.result c.queue_record.ensures.queued c.queue_record.ensures.kept
    (λ is. become_more is.2) (stayed_more c.args.self.now c.queue_record.new.self)
