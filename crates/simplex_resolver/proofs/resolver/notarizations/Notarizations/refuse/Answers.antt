-- How the contract of `refuse` follows: the view leaves the other sets, which stay disjoint, and has no value from now
-- on.
use Rattle.simplex_resolver.proofs.ViewSets.{seen_refused, failed_apart}
use Rattle.simplex_resolver.proofs.resolver.notarizations.Notarizations.refuse.Goals as goal

pub returns : goal.returns
returns c = seen_refused c.self.inside.certified c.self.inside.failed c.self.inside.noted c.args.self.now c.self.view_is
    c.remove-2.new.self c.insert.new.self c.remove.new.self c.args.view c.remove-2.ensures
    c.in_ok-insert.ensures.inserted c.remove.ensures

pub invariant_of-self-2 : goal.invariant_of-self-2
invariant_of-self-2 c = failed_apart c.self.inside.certified c.self.inside.failed c.self.inside.noted c.self.invariant
    c.remove-2.new.self c.insert.new.self c.remove.new.self c.args.view c.remove-2.ensures
    c.in_ok-insert.ensures.inserted c.remove.ensures
