-- That just those of later views are left.
use Rattle.std.proofs.Common.{rules}
use Rattle.std.specs.Prelude.{nat_lt}
use Rattle.std.proofs.lemmas.Fn.{filter_same}
use Rattle.engine_planner.proofs.plan.early.EarlyProposals.pass.Goals as goal

pub returns : goal.returns
returns g c = filter_same _ (λ early. nat_lt c.args.current early.view) _ (λ x b f' k. search rules) _ _
    c.retain.ensures.filtered
