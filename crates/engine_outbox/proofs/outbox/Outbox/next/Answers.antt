use Rattle.std.proofs.Common.{refl}
use Rattle.engine_outbox.proofs.Lawfully.{given_lawful}
use Rattle.engine_outbox.proofs.outbox.Outbox.next.Goals as goal

pub returns-clause-continues : goal.returns-clause-continues
returns-clause-continues g c = λ given lawful.
    given_lawful given c.args.self.now (record c.args.self.now { queue = c.pop_front.new.self }) lawful
    c.pop_front.result c.pop_front.ensures.items refl refl
