-- What is left makes of the fetches what all do.
use Rattle.std.proofs.Common.{◌≡◌, length}
use Rattle.engine_fetches.specs.OutstandingFetches.{wanting}
use Rattle.engine_fetches.proofs.fetches.Fetches.open_all.Given as goal

abbrev pub invariant-loop-view : goal.invariant-loop-view
invariant-loop-view l = record {
  opened : wanting l.rest l.self.wanted.items ≡ wanting l.views.keys l.initial.self.wanted.items;
  peers : l.self.peers ≡ l.initial.self.peers;
  retry : l.self.retry ≡ l.initial.self.retry;
}

abbrev pub decreases-loop-view : goal.decreases-loop-view
decreases-loop-view l = length l.rest
