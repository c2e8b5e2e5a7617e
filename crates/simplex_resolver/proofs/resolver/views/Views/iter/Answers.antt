-- How the contract of `iter` follows: the keys of the map are the views of the set.
use Rattle.std.proofs.Common.{◌∙◌}
use Rattle.simplex_resolver.proofs.ViewSets.{keys_keyed}
use Rattle.simplex_resolver.proofs.resolver.views.Views.iter.Goals as goal

pub returns : goal.returns
returns c = c.iter.ensures.rest ∙ keys_keyed _ c.args.self.now c.self.view_is c.self.invariant
