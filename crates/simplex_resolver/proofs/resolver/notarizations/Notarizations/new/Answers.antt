-- How the contract of `new` follows: three empty sets are the empty map, and are disjoint.
use Rattle.simplex_resolver.proofs.ViewSets.{none_valued, none_noted}
use Rattle.simplex_resolver.proofs.resolver.notarizations.Notarizations.new.Goals as goal

pub returns-clause-by_view : goal.returns-clause-by_view
returns-clause-by_view c = none_valued _ _ _ c.new-3.ensures c.new-2.ensures c.new.ensures

pub invariant_of-result : goal.invariant_of-result
invariant_of-result c = none_noted _ _ _ c.new.ensures
