-- How the contract of `store_certified` follows: what was stored is of the view and the encoding of this certificate.
use Rattle.std.proofs.Common.{◌≡◌, ℕ, List, ◌∙◌, ap}
use Rattle.std.proofs.lemmas.Result.{on_ok_weaker}
use Rattle.simplex_resolver.specs.Facts.{ResolverFacts}
use Rattle.simplex_resolver.specs.Steps.{with_certified}
use Rattle.simplex_resolver.proofs.resolver.state.State.store_certified.Goals as goal

-- what was stored, by its view and its encoding
same_certified : (new old : ResolverFacts) (v u : ℕ) (b e : List ℕ) → new ≡ with_certified old v b → v ≡ u → b ≡ e
    → new ≡ with_certified old u e
same_certified new old v u b e kept at bytes = kept ∙ ap (λ n. with_certified old n b) at
    ∙ ap (with_certified old u) bytes

pub returns-clause-after : goal.returns-clause-after
returns-clause-after g c =
    on_ok_weaker c.store_encoding.result (λ kept.
    same_certified c.store_encoding.new.self c.args.self.now _ _ _ _ kept c.view-view.ensures
    c.in_ok-encoding.ensures.encoded) c.store_encoding.ensures.after
