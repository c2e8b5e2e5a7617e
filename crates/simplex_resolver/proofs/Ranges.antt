-- A set of views while the views of a range are removed.
use Rattle.std.proofs.Common.{◌≡◌, ℕ, Bool, true, false, ◌&&◌, ◌||◌, not, ◌==◌, nat_lt, nat_le, cond, List, [], ◌∷◌, filter, slice_get, Option, Some, None, Bor, refl, sym, ◌∙◌, ap, arith}
use Rattle.std.specs.Option.{MatchOption, option_copied}
use Rattle.std.specs.Ordering.{nat_cmp, is_eq, is_le, is_lt}
use Rattle.std.specs.declared.cmp.Ordering.TheVariants.{Less, Equal, Greater}
use Rattle.std.specs.List.{list_any}
use Rattle.std.proofs.lemmas.Bool.{false≢true}
use Rattle.std.proofs.lemmas.Bool.Decides.{nat_tests}
use Rattle.simplex_resolver.specs.Repair.{has}
use Rattle.simplex_resolver.proofs.Views.{has-filter}

-- a comparison of two views, read by a test

le-cond : (b c : Bool) → is_le (cond b Less (cond c Equal Greater)) ≡ (b || c)
le-cond true c = refl
le-cond false true = refl
le-cond false false = refl

lt-cond : (b c : Bool) → is_lt (cond b Less (cond c Equal Greater)) ≡ b
lt-cond true c = refl
lt-cond false true = refl
lt-cond false false = refl

eq-cond : (b c : Bool) → is_eq (cond b Less (cond c Equal Greater)) ≡ (not b && c)
eq-cond true c = refl
eq-cond false true = refl
eq-cond false false = refl

pub within : (start end v : ℕ) → (is_le (nat_cmp start v) && not (is_lt (nat_cmp end v)))
    ≡ (nat_le start v && nat_le v end)
within start end v =
    let low = le-cond (nat_lt start v) (start == v) in
    let high = lt-cond (nat_lt end v) (end == v) in grind (arith, nat_tests, low, high)

pub is_same : (v u : ℕ) → is_eq (nat_cmp v u) ≡ (v == u)
is_same v u = let same = eq-cond (nat_lt v u) (v == u) in grind (arith, nat_tests, same)

-- whether a view is found by comparing
pub found : (vs : List ℕ) (v : ℕ) → list_any (λ u. is_eq (nat_cmp v u)) vs ≡ has vs v
found [] v = refl
found (u ∷ vs) v = let here = is_same v u in let rest = found vs v in grind (arith, here, rest)

-- the first one of a list

pub first_is : (o : Option (Bor ℕ)) (vs rest : List ℕ)
    → MatchOption o ((vs ≡ []) × (rest ≡ [])) (λ u. vs ≡ u.now ∷ rest) → option_copied o ≡ slice_get vs 0
first_is None vs rest (none, _) = rw none refl
first_is (Some u) vs rest is = rw is refl

none_first : (vs : List ℕ) → slice_get vs 0 ≡ None → vs ≡ []
none_first [] none = refl
none_first (u ∷ vs) none = absurd (cc)

first_has : (vs : List ℕ) (v : ℕ) → slice_get vs 0 ≡ Some v → has vs v ≡ true
first_has [] v is = absurd (cc)
first_has (u ∷ vs) v is = let same : u ≡ v = cc in rw same (grind (arith, nat_tests))

-- the first one that passes a test does so, and is in the list
pub first_passes : (p : ℕ → Bool) (vs : List ℕ) (v : ℕ) → slice_get (filter p vs) 0 ≡ Some v → (p v && has vs v) ≡ true
first_passes p vs v is = sym (has-filter p vs v) ∙ first_has (filter p vs) v is

pub is_there : (b c : Bool) → (b && c) ≡ true → c ≡ true
is_there true c is = is
is_there false c is = absurd (false≢true is)

-- where none is left that passes it, all others stayed
pub none_passes : (p : ℕ → Bool) (vs : List ℕ) (v : ℕ) (before : Bool) → slice_get (filter p vs) 0 ≡ None
    → (p v ≡ false → has vs v ≡ before) → has vs v ≡ (not (p v) && before)
none_passes p vs v before none stay = finish (p v) (has vs v)
    (sym (has-filter p vs v) ∙ ap (λ us. has us v) (none_first (filter p vs) none)) stay
  where
    finish : (b now : Bool) → (b && now) ≡ false → (b ≡ false → now ≡ before) → now ≡ (not b && before)
    finish true now gone stays = gone
    finish false now gone stays = stays refl
