-- How the contract of `add_view` follows: a set with the view put in has the view and those before.
use Rattle.std.proofs.Common.{ap, ◌∙◌}
use Rattle.simplex_resolver.specs.Repair.{has}
use Rattle.simplex_resolver.proofs.Views.{has-insert_key}
use Rattle.simplex_resolver.proofs.resolver.outstanding.add_view.Goals as goal

pub returns-clause-after : goal.returns-clause-after
returns-clause-after c v = ap (λ us. has us v) c.in_ok-insert.ensures.keys ∙ has-insert_key _ c.args.view v
