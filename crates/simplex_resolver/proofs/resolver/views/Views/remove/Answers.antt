-- How the contract of `remove` follows: removing a key keeps the others, sorted, and an absent one changes nothing.
use Rattle.std.proofs.Common.{◌≡◌, ℕ, ◌==◌, cond, false, ◌∙◌, ap, sym, arith}
use Rattle.std.proofs.lemmas.Bool.Decides.{nat_tests}
use Rattle.simplex_resolver.specs.Repair.{has}
use Rattle.simplex_resolver.proofs.Ranges.{is_same, found}
use Rattle.simplex_resolver.proofs.ViewSets.{keyed_sorted, removed}
use Rattle.simplex_resolver.proofs.resolver.views.Views.remove.Goals as goal

turned : (v q : ℕ) → (v == q) ≡ (q == v)
turned v q = grind (arith, nat_tests)

pub invariant_of-self : goal.invariant_of-self
invariant_of-self c = keyed_sorted _ c.remove.ensures.ordered

pub returns : goal.returns
returns c = removed _ _ c.args.self.now c.self.view_is c.self.invariant (keyed_sorted _ c.remove.ensures.ordered)
    c.args.view
    (λ q. sym (found _ q) ∙ c.remove.ensures.updates.0 q
    ∙ (λ k. cond (is_same c.args.view q k) false (found c.self.inside.views.keys q k))
    ∙ ap (λ b. cond b false (has c.self.inside.views.keys q)) (turned c.args.view q))
