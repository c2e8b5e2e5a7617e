-- The loop of `new`: as many keys as were counted.
use Rattle.std.proofs.Common.{◌≡◌, length}
use Rattle.example_engine.proofs.scheme.SealScheme.new.Given as goal

abbrev pub invariant-loop-index : goal.invariant-loop-index
invariant-loop-index l = length l.keys.items ≡ l.index
