-- How the contract of `contains` follows: a key is found exactly where the view is in the set.
use Rattle.std.proofs.Common.{◌∙◌}
use Rattle.simplex_resolver.proofs.Ranges.{found}
use Rattle.simplex_resolver.proofs.ViewSets.{contained}
use Rattle.simplex_resolver.proofs.resolver.views.Views.contains.Goals as goal

pub returns : goal.returns
returns c = c.contains.ensures ∙ found _ c.args.view
    ∙ contained _ c.args.self.now c.self.view_is c.self.invariant c.args.view
