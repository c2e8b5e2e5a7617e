use Rattle.std.proofs.Common.{◌≡◌, ◌++◌, map, drop}
use Rattle.engine_outbox.specs.Entries.{votes_of_entries}
use Rattle.engine_outbox.specs.declared.output.Output.TheVariants.{Vote}
use Rattle.engine_outbox.proofs.outbox.votes.votes_of.Given as goal

abbrev pub invariant-loop-entry : goal.invariant-loop-entry
invariant-loop-entry g l = l.votes.items ++ map Vote (votes_of_entries (drop l.entry-index l.entries)) ≡ map Vote
    (votes_of_entries l.entries)
