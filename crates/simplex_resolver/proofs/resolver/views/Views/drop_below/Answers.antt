-- How the contract of `drop_below` follows: the keys from the view on stay sorted, and are the set from the view on.
use Rattle.simplex_resolver.proofs.ViewSets.{keyed_sorted, lowered}
use Rattle.simplex_resolver.proofs.resolver.views.Views.drop_below.Goals as goal

pub invariant_of-self : goal.invariant_of-self
invariant_of-self c = keyed_sorted _ c.len-count.ensures.ordered

pub returns : goal.returns
returns c = lowered _ _ c.args.self.now c.self.view_is c.self.invariant (keyed_sorted _ c.len-count.ensures.ordered)
    c.args.view c.drop_lower.ensures
