-- Exactly those which are missing are left.
use Rattle.std.proofs.Common.{rules}
use Rattle.std.proofs.lemmas.Fn.{filter_same}
use Rattle.engine_fetches.proofs.Once.{once_left}
use Rattle.engine_fetches.specs.OutstandingFetches.{is_missing}
use Rattle.engine_fetches.proofs.fetches.Fetches.retain_missing.Goals as goal

pub returns-clause-kept : goal.returns-clause-kept
returns-clause-kept g c = filter_same _ (is_missing c.args.wanted.now.keys c.args.state.now) _
    (λ x b f' k. search rules) _ _ c.retain.ensures.filtered

pub invariant_of-self : goal.invariant_of-self
invariant_of-self g c =
    let left = filter_same _ (is_missing c.args.wanted.now.keys c.args.state.now) _ (λ x b f' k. search rules) _ _
    c.retain.ensures.filtered in
    rw left (record {
      once = once_left (is_missing c.args.wanted.now.keys c.args.state.now) c.args.self.now.wanted.items
          c.args.self.now.once;
    })
