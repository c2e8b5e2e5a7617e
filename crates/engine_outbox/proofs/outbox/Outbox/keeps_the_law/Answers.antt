use Rattle.std.proofs.Common.{[], subst}
use Rattle.engine_outbox.specs.Finalizations.{finals_in, RiseByView}
use Rattle.engine_outbox.proofs.Behind.{beginning}
use Rattle.engine_outbox.proofs.Finalizations.{finalized_in-append, rising_first}
use Rattle.engine_outbox.proofs.outbox.Outbox.keeps_the_law.Goals as goal

pub returns-clause-behind : goal.returns-clause-behind
returns-clause-behind g c = λ given lawful. beginning [] given c.args.self.now.queue.items lawful.behind

pub returns-clause-rising : goal.returns-clause-rising
returns-clause-rising g c = λ given lawful.
    let queued = c.args.self.now.queue.items in
    rising_first (finals_in given) (finals_in queued)
    (subst RiseByView (finalized_in-append given queued) lawful.rising)
