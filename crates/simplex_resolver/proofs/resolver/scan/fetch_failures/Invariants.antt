-- The loop of `fetch_failures`: the effects so far and those of the views that are left.
use Rattle.std.proofs.Common.{◌≡◌, ℕ, Bool, ◌++◌, ◌&&◌, filter, not, nat_lt, length}
use Rattle.std.specs.FinMap.{keys}
use Rattle.simplex_view_maps.specs.ByTerm.{has_covering}
use Rattle.simplex_resolver.specs.Steps.{failure_fetches}
use Rattle.simplex_resolver.proofs.resolver.scan.fetch_failures.Given as goal

abbrev pub invariant-loop-view : goal.invariant-loop-view
invariant-loop-view l =
    let test : ℕ → Bool = λ v. nat_lt l.floor v && not (has_covering l.nullifications v) in
    l.effects.items ++ failure_fetches (filter test l.rest)
    ≡ l.initial.effects.items ++ failure_fetches (filter test (keys l.views))

abbrev pub decreases-loop-view : goal.decreases-loop-view
decreases-loop-view l = length l.rest
