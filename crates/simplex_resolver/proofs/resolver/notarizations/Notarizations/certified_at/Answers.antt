-- How the contract of `certified_at` follows: a value among the certified ones is the view's in the map of all three
-- sets.
use Rattle.std.proofs.Common.{◌∙◌}
use Rattle.simplex_resolver.proofs.ViewSets.{seen_value}
use Rattle.simplex_resolver.proofs.resolver.notarizations.Notarizations.certified_at.Goals as goal

pub returns : goal.returns
returns c = c.get.ensures ∙ seen_value c.self.inside.certified c.self.inside.failed c.self.inside.noted c.args.self.now
    c.self.view_is c.args.view
