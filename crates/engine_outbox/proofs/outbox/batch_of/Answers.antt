use Rattle.std.proofs.Common.{refl}
use Rattle.engine_outbox.proofs.outbox.batch_of.Goals as goal

pub returns-in-Ok : goal.returns-in-Ok
returns-in-Ok g c = rw (
  c.in-Ok.ensures.items,
  c.in_ok-push_back.ensures.items,
  c.new-batch.ensures.items,
  c.in_ok-votes.ensures,
  c.deref.ensures.value,
) refl
