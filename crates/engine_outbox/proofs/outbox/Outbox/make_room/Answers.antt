use Rattle.std.proofs.Common.{refl}
use Rattle.engine_outbox.proofs.Lawfully.{stayed_lawful}
use Rattle.engine_outbox.proofs.Queued.{stayed_more}
use Rattle.engine_outbox.proofs.outbox.Outbox.make_room.Goals as goal

pub returns-clause-continues : goal.returns-clause-continues
returns-clause-continues g c = λ given lawful.
    stayed_lawful given c.args.self.now (record c.args.self.now { queue = c.reserve.new.self }) lawful
    (c.reserve.ensures.items, refl, refl)

pub returns-clause-grown : goal.returns-clause-grown
returns-clause-grown g c = stayed_more c.args.self.now (record c.args.self.now { queue = c.reserve.new.self })
    (c.reserve.ensures.items, refl, refl)
