use Rattle.std.proofs.Common.{rules, not}
use Rattle.std.proofs.lemmas.Fn.{filter_same}
use Rattle.engine_fetches.proofs.Once.{once_left}
use Rattle.engine_fetches.specs.Fetches.{is_within}
use Rattle.engine_fetches.proofs.fetches.Fetches.settle.Goals as goal

pub returns-clause-settled : goal.returns-clause-settled
returns-clause-settled c = filter_same _ (λ f. not (is_within c.args.kind c.args.first c.args.last f)) _
    (λ x b f' k. search rules) _ _ c.retain.ensures.filtered

pub invariant_of-self : goal.invariant_of-self
invariant_of-self c =
    let left = filter_same _ (λ f. not (is_within c.args.kind c.args.first c.args.last f)) _ (λ x b f' k. search rules)
    _ _ c.retain.ensures.filtered in
    rw left (record {
      once = once_left (λ f. not (is_within c.args.kind c.args.first c.args.last f))
          c.args.self.now.wanted.items c.args.self.now.once;
    })
