-- The votes to nullify that requests to build look at.
use Rattle.std.proofs.Common.{◌≡◌, ℕ, List, [], ◌∷◌, is_some, refl, ap, sym, ◌∙◌, eqb, arith}
use Rattle.std.specs.List.{list_any}
use Rattle.std.specs.Ordering.{nat_cmp, eq_by_cmp}
use Rattle.std.specs.FinMap as map
use Rattle.simplex_view_maps.proofs.Maps.{is_eq-nat_cmp}
use Rattle.std.proofs.lemmas.Bool.Decides.{nat_tests}
use Rattle.simplex_voter.specs.Facts.{StateFacts}
use Rattle.simplex_voter.specs.ProposalRequests.{voted_nullify}

module _ {K L D : Type 0} (x : StateFacts K L D) where
  any_same : (v : ℕ) (us : List ℕ) → list_any (eq_by_cmp nat_cmp v) us ≡ list_any (λ u. eqb u v) us
  any_same v [] = refl
  any_same v (u ∷ us) =
      let turned : eqb v u ≡ eqb u v = grind (arith, nat_tests) in
      rw (is_eq-nat_cmp v u, turned, any_same v us) refl

  pub voted_shown : (m : map.FinMap nat_cmp (Unit {0})) (v : ℕ) → x.nullify_votes ≡ map.keys m
      → is_some (map.get m v) ≡ voted_nullify x v
  voted_shown m v shown = map.contains_key-keys m v ∙ any_same v (map.keys m) ∙ ap (list_any (λ u. eqb u v)) (sym shown)
