use Rattle.std.proofs.Common.{◌++◌, Some, None, ap, sym, ◌∙◌}
use Rattle.std.specs.Option.{option_map_or}
use Rattle.engine_outbox.specs.Entries.{newest_from}
use Rattle.engine_outbox.proofs.Behind.{newest_or}
use Rattle.engine_outbox.proofs.outbox.Outbox.queue_entries.Goals as goal

pub returns-in-Ok-clause-queued : goal.returns-in-Ok-clause-queued
returns-in-Ok-clause-queued g c = (
  c.in_ok-entries.entries,
  c.in_ok-entries.ensures,
  record {
    queue = c.in-Ok.ensures.queued.queue ∙ ap (λ batch. c.args.self.now.queue.items ++ batch) c.in_ok-batch.ensures;
    repeat_is =
        c.in-Ok.ensures.queued.repeat_is
        ∙ ap (λ newest. option_map_or Some newest c.args.self.now.repeat)
        (c.in_ok-newest.ensures ∙ ap (newest_from None) c.deref.ensures.value)
        ∙ sym (newest_or c.args.self.now.repeat c.in_ok-entries.entries.items);
    reported_is = c.in-Ok.ensures.queued.reported_is;
  },
)
