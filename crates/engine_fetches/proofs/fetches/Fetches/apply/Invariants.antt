-- The effects so far and those that are left make of the fetches what all do.
use Rattle.std.proofs.Common.{◌≡◌, drop}
use Rattle.engine_fetches.specs.OutstandingFetches.{after_effects}
use Rattle.engine_fetches.proofs.fetches.Fetches.apply.Given as goal

abbrev pub invariant-loop-effect : goal.invariant-loop-effect
invariant-loop-effect l = record {
  after : after_effects l.moment (drop l.effect-index l.effects) l.self.wanted.items ≡ after_effects l.moment l.effects
      l.initial.self.wanted.items;
  peers : l.self.peers ≡ l.initial.self.peers;
  retry : l.self.retry ≡ l.initial.self.retry;
}
