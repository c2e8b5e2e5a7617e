use Rattle.std.proofs.Common.{rules}
use Rattle.std.specs.Prelude.{nat_lt}
use Rattle.std.proofs.lemmas.Fn.{filter_same}
use Rattle.engine_fetches.proofs.Once.{once_left}
use Rattle.engine_fetches.proofs.fetches.Fetches.pass.Goals as goal

pub returns-clause-passed : goal.returns-clause-passed
returns-clause-passed c = filter_same _ (λ f. nat_lt c.args.finalized f.view) _ (λ x b f' k. search rules) _ _
    c.retain.ensures.filtered

pub invariant_of-self : goal.invariant_of-self
invariant_of-self c =
    let left = filter_same _ (λ f. nat_lt c.args.finalized f.view) _ (λ x b f' k. search rules) _ _
    c.retain.ensures.filtered in
    rw left (record
    { once = once_left (λ f. nat_lt c.args.finalized f.view) c.args.self.now.wanted.items c.args.self.now.once })
