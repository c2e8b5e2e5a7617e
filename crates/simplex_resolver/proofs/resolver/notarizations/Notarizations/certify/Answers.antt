-- How the contract of `certify` follows: the view leaves the other sets, which stay disjoint, and its value is the
-- encoding.
use Rattle.simplex_resolver.proofs.ViewSets.{seen_certified, certified_apart}
use Rattle.simplex_resolver.proofs.resolver.notarizations.Notarizations.certify.Goals as goal

pub returns : goal.returns
returns c = seen_certified c.self.inside.certified c.self.inside.failed c.self.inside.noted c.args.self.now
    c.self.view_is c.put.new.tracked c.remove.new.self c.args.view c.args.encoding c.in_ok-put.ensures.put
    c.remove.ensures

pub invariant_of-self-2 : goal.invariant_of-self-2
invariant_of-self-2 c = certified_apart c.self.inside.certified c.self.inside.failed c.self.inside.noted
    c.self.invariant c.put.new.tracked c.remove.new.self c.args.view c.args.encoding c.in_ok-put.ensures.put
    c.remove.ensures
