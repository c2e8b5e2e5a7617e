-- Entries in order by their views: each is found at its view.
use Rattle.std.proofs.Common.{◌≡◌, ap, sym, subst, ℕ, ◌<◌, inl, inr, Bool, true, false, ◌&&◌, List, [], ◌∷◌, Contains, Some, arith}
use Rattle.std.specs.Prelude.{T}
use Rattle.std.specs.Ordering.{nat_cmp, is_lt}
use Rattle.std.specs.FinMap.Entries.{find, is_sorted, below_all}
use Rattle.std.proofs.lemmas.Bool.{eq-eqb, ne_eqb}
use Rattle.std.proofs.lemmas.Bool.Decides.{nat_tests}
use Rattle.simplex_view_maps.proofs.Maps.{is_eq-nat_cmp}
use Rattle.laws_safety.proofs.lists.Splits.{Contains-cases}

both_true : (a b : Bool) → T (a && b) → T a × T b
both_true true b is = (tt, is)
both_true false b is = absurd is

below : (a b : ℕ) → T (is_lt (nat_cmp a b)) → a < b
below a b is = grind (arith, nat_tests)

module _ {V : Type 0} where
  -- the first view is below all others
  first_below : (k : ℕ) (es : List (ℕ × V)) (e : ℕ × V) → T (below_all nat_cmp k es) → Contains es e → k < e.0
  first_below k [] e lower h = absurd (omega (arith, h.1))
  first_below k (f ∷ es) e lower h =
      let parts = both_true (is_lt (nat_cmp k f.0)) (below_all nat_cmp k es) lower in
      elim (Contains-cases f es e h) [
        | inl here ↦ subst (λ (g : ℕ × V). k < g.0) here (below k f.0 parts.0)
        | inr later ↦ first_below k es e parts.1 later
      ]

  pub found_in_order : (es : List (ℕ × V)) (e : ℕ × V) → T (is_sorted nat_cmp es) → Contains es e
      → find nat_cmp e.0 es ≡ Some e.1
  found_in_order [] e sorted h = absurd (omega (arith, h.1))
  found_in_order (f ∷ es) e sorted h =
      let parts = both_true (below_all nat_cmp f.0 es) (is_sorted nat_cmp es) sorted in
      elim (Contains-cases f es e h) [
        | inl here ↦ rw (is_eq-nat_cmp e.0 f.0, eq-eqb e.0 f.0 (ap (λ (g : ℕ × V). g.0) (sym here)))
            (ap (λ (g : ℕ × V). Some g.1) here)
        | inr later ↦
            (let lower = first_below f.0 es e parts.0 later in
            rw (is_eq-nat_cmp e.0 f.0, ne_eqb e.0 f.0 (omega (arith, lower))) (found_in_order es e parts.1 later))
      ]
