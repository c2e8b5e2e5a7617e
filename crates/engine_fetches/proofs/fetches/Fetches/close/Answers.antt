use Rattle.std.proofs.Common.{rules, not}
use Rattle.std.proofs.lemmas.Fn.{filter_same}
use Rattle.engine_fetches.proofs.Once.{once_left}
use Rattle.engine_fetches.specs.Fetches.{is_of}
use Rattle.engine_fetches.proofs.fetches.Fetches.close.Goals as goal

pub returns-clause-closed : goal.returns-clause-closed
returns-clause-closed c = filter_same _ (λ f. not (is_of c.args.kind c.args.view f)) _ (λ x b f' k. search rules) _ _
    c.retain.ensures.filtered

pub invariant_of-self : goal.invariant_of-self
invariant_of-self c =
    let left = filter_same _ (λ f. not (is_of c.args.kind c.args.view f)) _ (λ x b f' k. search rules) _ _
    c.retain.ensures.filtered in
    rw left (record {
      once = once_left (λ f. not (is_of c.args.kind c.args.view f)) c.args.self.now.wanted.items
          c.args.self.now.once;
    })
