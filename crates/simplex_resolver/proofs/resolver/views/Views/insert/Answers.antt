-- How the contract of `insert` follows: a key that is added keeps the keys sorted, and one that is there changes
-- nothing.
use Rattle.std.proofs.Common.{ap, ◌∙◌}
use Rattle.simplex_resolver.specs.Repair.{has}
use Rattle.simplex_resolver.proofs.Views.{has-insert_key}
use Rattle.simplex_resolver.proofs.ViewSets.{keyed_sorted, inserted, there_once}
use Rattle.simplex_resolver.proofs.resolver.views.Views.insert.Goals as goal

pub invariant_of-self : goal.invariant_of-self
invariant_of-self c = keyed_sorted _ c.insert.ensures.ordered

pub invariant_of-self-2 : goal.invariant_of-self-2
invariant_of-self-2 c = keyed_sorted _ c.insert.ensures.ordered

pub returns-clause-inserted : goal.returns-clause-inserted
returns-clause-inserted c =
    inserted _ _ c.args.self.now c.self.view_is c.self.invariant (keyed_sorted _ c.insert.ensures.ordered) c.args.view
    (λ q. ap (λ us. has us q) c.in_ok-insert.ensures.keys ∙ has-insert_key _ c.args.view q)

pub returns-clause-unless_there : goal.returns-clause-unless_there
returns-clause-unless_there c =
    inserted _ _ c.args.self.now c.self.view_is c.self.invariant (keyed_sorted _ c.insert.ensures.ordered) c.args.view
    (λ q. ap (λ us. has us q) c.in_ok-insert.ensures.keys ∙ has-insert_key _ c.args.view q)
    ∙ there_once c.args.self.now c.args.view
