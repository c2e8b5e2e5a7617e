-- The fetches so far and those that are left make what all do.
use Rattle.std.proofs.Common.{◌≡◌, drop}
use Rattle.engine_fetches.specs.OutstandingFetches.{fetching}
use Rattle.engine_fetches.proofs.repair.Repair.fetch_all.Given as goal

abbrev pub invariant-loop-fetch : goal.invariant-loop-fetch
invariant-loop-fetch l = record {
  after : fetching l.now (drop l.fetch-index l.lacking) l.self.fetches.wanted.items ≡ fetching l.now l.lacking
      l.initial.self.fetches.wanted.items;
  peers : l.self.fetches.peers ≡ l.initial.self.fetches.peers;
  retry : l.self.fetches.retry ≡ l.initial.self.fetches.retry;
  resolver : l.self.resolver ≡ l.initial.self.resolver;
  passed : l.self.passed ≡ l.initial.self.passed;
  behind : l.self.is_behind ≡ l.initial.self.is_behind;
}
