-- How the contract of `drop_below` follows: each of the three sets is lowered, so the map is, and they stay apart.
use Rattle.simplex_resolver.proofs.ViewSets.{seen_lowered, lowered_apart}
use Rattle.simplex_resolver.proofs.resolver.notarizations.Notarizations.drop_below.Goals as goal

pub returns : goal.returns
returns c = seen_lowered c.self.inside.certified c.self.inside.failed c.self.inside.noted c.args.self.now c.self.view_is
    c.drop_below-3.new.self c.drop_below-2.new.self c.drop_below.new.self c.args.view c.drop_below-3.ensures
    c.drop_below-2.ensures c.drop_below.ensures

pub invariant_of-self : goal.invariant_of-self
invariant_of-self c = lowered_apart c.self.inside.certified c.self.inside.failed c.self.inside.noted c.self.invariant
    c.drop_below-3.new.self c.drop_below-2.new.self c.drop_below.new.self c.args.view c.drop_below-3.ensures
    c.drop_below-2.ensures c.drop_below.ensures
