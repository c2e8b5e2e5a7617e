use Rattle.std.proofs.Common.{take}
use Rattle.engine_fetches.specs.Fetches.{IsEarliest}
use Rattle.engine_fetches.proofs.fetches.earliest.Given as goal

abbrev pub invariant-loop-fetch : goal.invariant-loop-fetch
invariant-loop-fetch l = IsEarliest (take l.fetch-index l.fetches) l.earliest
