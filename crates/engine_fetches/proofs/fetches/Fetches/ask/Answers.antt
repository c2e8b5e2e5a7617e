-- That the fetch which is asked for is of the same kind and view after it, so the same are open.
use Rattle.std.proofs.Common.{ap, ◌∙◌}
use Rattle.engine_fetches.proofs.Once.{once_again, open_again}
use Rattle.engine_fetches.proofs.fetches.Fetches.ask.Goals as goal

pub invariant_of-self : goal.invariant_of-self
invariant_of-self c =
    record {
      once = once_again c.asked-again.result c.args.self.now.wanted.items c.in_ok-place.place c.index.result.now (
        ap (λ f. f.kind) c.asked-again.ensures ∙ ap (λ f. f.kind) c.index.ensures,
        ap (λ f. f.view) c.asked-again.ensures ∙ ap (λ f. f.view) c.index.ensures,
      )
          c.args.self.now.once;
    }

pub returns-clause-still : goal.returns-clause-still
returns-clause-still c kind view =
    open_again c.asked-again.result kind view c.args.self.now.wanted.items c.in_ok-place.place c.index.result.now (
      ap (λ f. f.kind) c.asked-again.ensures ∙ ap (λ f. f.kind) c.index.ensures,
      ap (λ f. f.view) c.asked-again.ensures ∙ ap (λ f. f.view) c.index.ensures,
    )
