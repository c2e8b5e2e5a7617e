-- Sets of views, and the notarizations that a resolver stores, as finite maps. No public clause names them.
use Rattle.std.specs.Prelude.{◌≡◌, ℕ, true, false, ◌||◌, List, ◌++◌, Option, Some, None, map, refl}
use Rattle.std.specs.Ordering.{nat_cmp}
use Rattle.std.specs.Coded.{Coded, code_by, coded×, coded_ℕ, coded_list, coded_option}
use base.Stored.{coded_unit}
use Rattle.std.specs.FinMap as finmap
use Rattle.std.specs.FinMap.{FinMap}

-- views as the entries of a map
abbrev pub keyed : List ℕ → List (ℕ × Unit {0})
keyed vs = map (λ v. (v, tt)) vs

-- the notarized and judged views, each with its encoding if its last verdict was true, and those with a false
-- verdict
pub record NotarizationsFacts : Type 0 where
  pub by_view : FinMap nat_cmp (Option (List ℕ))
  pub failed : FinMap nat_cmp (Unit {0})

-- they are stored as the pair of their fields
abbrev pub notarizations_code : Coded NotarizationsFacts
notarizations_code =
    code_by (FinMap nat_cmp (Option (List ℕ)) × FinMap nat_cmp (Unit {0}))
    (coded× (finmap.code coded_ℕ (coded_option (coded_list coded_ℕ))) (finmap.code coded_ℕ coded_unit))
    (λ n. (n.by_view, n.failed))
    (λ p. record { by_view = p.0; failed = p.1 }) (λ _. refl)

-- the views that have a value, each with it, and the views without one
abbrev pub with_values : {V : Type 0} → FinMap nat_cmp V → FinMap nat_cmp (Unit {0}) → FinMap nat_cmp (Unit {0})
    → FinMap nat_cmp (Option V)
with_values values failed noted =
    finmap.from_entries (map (λ e. (e.0, Some e.1)) (finmap.entries values)
    ++ map (λ v. (v, None)) (finmap.keys failed ++ finmap.keys noted))

-- a noted view has no value, and has not failed
abbrev pub AreApart : {V : Type 0} → FinMap nat_cmp V → FinMap nat_cmp (Unit {0}) → FinMap nat_cmp (Unit {0}) → Type 0
AreApart values failed noted = (v : ℕ) → finmap.contains_key noted v ≡ true
    → (finmap.contains_key values v || finmap.contains_key failed v) ≡ false
