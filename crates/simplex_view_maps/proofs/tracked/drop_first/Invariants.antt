-- The loop of `drop_first`: the entries after as many as were counted.
use Rattle.std.proofs.Common.{◌≡◌, drop}
use Rattle.simplex_view_maps.proofs.tracked.drop_first.Given as goal

abbrev pub invariant-loop : goal.invariant-loop
invariant-loop g l = l.entries ≡ drop l.counter l.fn.entries
