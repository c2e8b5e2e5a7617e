-- The loop of `apply`: the effects so far, which are applied.
use Rattle.std.proofs.Common.{take}
use Rattle.simplex_resolver.specs.Repair.{IsApplied}
use Rattle.simplex_resolver.proofs.resolver.outstanding.apply.Given as goal

abbrev pub invariant-loop-effect : goal.invariant-loop-effect
invariant-loop-effect l = IsApplied l.initial.outstanding.keys (take l.effect-index l.effects) l.outstanding.keys
