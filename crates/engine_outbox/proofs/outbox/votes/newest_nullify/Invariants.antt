use Rattle.std.proofs.Common.{◌≡◌, None, drop}
use Rattle.engine_outbox.specs.Entries.{newest_from}
use Rattle.engine_outbox.proofs.outbox.votes.newest_nullify.Given as goal

abbrev pub invariant-loop-entry : goal.invariant-loop-entry
invariant-loop-entry g l = newest_from l.newest (drop l.entry-index l.entries) ≡ newest_from None l.entries
