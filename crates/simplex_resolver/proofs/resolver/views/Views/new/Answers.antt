-- How the contract of `new` follows: no keys are the empty set.
use Rattle.std.proofs.Common.{ap}
use Rattle.simplex_view_maps.proofs.Maps.{made_empty}
use Rattle.simplex_resolver.specs.ViewSets.{keyed}
use Rattle.simplex_resolver.proofs.ViewSets.{keyed_sorted}
use Rattle.simplex_resolver.proofs.resolver.views.Views.new.Goals as goal

pub invariant_of-result : goal.invariant_of-result
invariant_of-result c = keyed_sorted _ c.new.ensures.ordered

pub returns : goal.returns
returns c = made_empty _ (ap keyed c.new.ensures.empty)
