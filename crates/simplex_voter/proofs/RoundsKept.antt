-- Maps from views and the lists of their entries, which facts hold.
use Rattle.std.proofs.Common.{◌≡◌, ℕ, Bool, true, false, cond, leb, ltb, filter, List, [], ◌∷◌, Option, Some, None, Ok, is_some, Bor, refl, ap, sym, ◌∙◌, inl, inr}
use Rattle.std.specs.Option.{option_copied}
use Rattle.std.specs.Ordering.{nat_cmp}
use Rattle.std.specs.FinMap as map
use Rattle.std.specs.FinMap.Entries.{find}
use Rattle.std.proofs.lemmas.Bool.{cases_eq, eq-eqb, ne_eqb}
use Rattle.simplex_view_maps.specs.Tracked.{after_insert, at_or_above, below}
use Rattle.std.specs.Prelude.{map as map_list}
use Rattle.simplex_view_maps.proofs.Maps.{get-insert, same_maps, made_empty, entries-retain_keys}

module _ {V : Type 0} where
  pub find_entries : (m : map.FinMap nat_cmp V) (v : ℕ) → find nat_cmp v (map.entries m) ≡ map.get m v
  find_entries m v = sym (map.get-entries m v)

  pub insert-same : (m : map.FinMap nat_cmp V) (v : ℕ) (x : V) → map.get m v ≡ Some x → map.insert m v x ≡ m
  insert-same m v x here = same_maps _ _ (λ q. get-insert m v x q ∙ elim (cases_eq q v) [
    | inl at ↦ rw (eq-eqb q v at, at) (sym here)
    | inr other ↦ rw (ne_eqb q v other) refl
  ])

pub entries_empty : {V : Type 0} (m : map.FinMap nat_cmp V) → m ≡ map.empty → map.entries m ≡ []
entries_empty {V} m is = ap map.entries (is ∙ sym (made_empty {V = V} [] refl)) ∙ map.entries-from_sorted nat_cmp [] tt

pub keys_empty : {V : Type 0} (m : map.FinMap nat_cmp V) → m ≡ map.empty → map.keys m ≡ []
keys_empty m is = ap (map_list (λ e. e.0)) (entries_empty m is)

pub filter-keys : {V : Type 0} (p : ℕ → Bool) (es : List (ℕ × V))
    → map_list (λ e. e.0) (filter (λ e. p e.0) es) ≡ filter p (map_list (λ e. e.0) es)
filter-keys p [] = refl
filter-keys p (e ∷ es) = elim (p e.0) as (λ b.
    map_list (λ f. f.0) (cond b (e ∷ filter (λ f. p f.0) es) (filter (λ f. p f.0) es)) ≡ cond b
    (e.0 ∷ filter p (map_list (λ f. f.0) es)) (filter p (map_list (λ f. f.0) es))) [
      | true ↦ ap (λ ks. e.0 ∷ ks) (filter-keys p es)
      | false ↦ filter-keys p es
    ]

-- the keys at or above a view, and the views below one
pub keys-kept : {V : Type 0} (m : map.FinMap nat_cmp V) (v : ℕ)
    → map.keys (at_or_above m v) ≡ filter (λ u. leb v u) (map.keys m)
keys-kept m v = ap (map_list (λ e. e.0)) (entries-retain_keys m (λ u. leb v u))
    ∙ filter-keys (λ u. leb v u) (map.entries m)

pub keys-below : {V : Type 0} (m : map.FinMap nat_cmp V) (v : ℕ)
    → map.keys (below m v) ≡ map_list (λ e. e.0) (filter (λ e. ltb e.0 v) (map.entries m))
keys-below m v = ap (map_list (λ e. e.0)) (entries-retain_keys m (λ u. ltb u v))

-- a set of views once a view is added, whether it was there before or not
pub noted : (m : map.FinMap nat_cmp (Unit {0})) (v : ℕ) (r : Option (Unit {0}))
    → r ≡ cond (map.contains_key m v) (Some tt) None → after_insert m v tt (Ok r) ≡ map.insert m v tt
noted m v r is = by_answer (map.get m v) refl r is
  where
    by_answer : (o : Option (Unit {0})) → map.get m v ≡ o → (s : Option (Unit {0}))
        → s ≡ cond (is_some o) (Some tt) None → after_insert m v tt (Ok s) ≡ map.insert m v tt
    by_answer None here None is = refl
    by_answer None here (Some x) is = let bad : Some x ≡ None = is in cc
    by_answer (Some y) here None is = let bad : None ≡ Some tt = is in cc
    by_answer (Some y) here (Some x) is = sym (insert-same m v tt here)

-- a view that is added is in the set, and so are those that were
pub noted_there : (m new : map.FinMap nat_cmp (Unit {0})) (v : ℕ) → new ≡ map.insert m v tt
    → map.contains_key new v ≡ true
noted_there m new v is = ap (λ n. map.contains_key n v) is ∙ ap is_some (get-insert m v tt v)
    ∙ rw (eq-eqb v v refl) refl

pub noted_still : (m new : map.FinMap nat_cmp (Unit {0})) (v : ℕ) → new ≡ map.insert m v tt → (u : ℕ)
    → map.contains_key m u ≡ true → map.contains_key new u ≡ true
noted_still m new v is u there = ap (λ n. map.contains_key n u) is ∙ ap is_some (get-insert m v tt u)
    ∙ elim (cases_eq u v) [
      | inl same ↦ rw (eq-eqb u v same) refl
      | inr other ↦ rw (ne_eqb u v other) there
    ]

-- a value that is looked up is there where it is there
pub copied_some : {A : Type 0} (o : Option (Bor A)) → is_some (option_copied o) ≡ is_some o
copied_some None = refl
copied_some (Some a) = refl

-- whether a value is looked up
pub looked_up : {A : Type 0} (o : Option (Bor A)) (found : Option A) (b : Bool) → option_copied o ≡ found
    → b ≡ is_some o → is_some found ≡ b
looked_up o found b same is = sym (ap is_some same) ∙ copied_some o ∙ sym is

-- an insert into an empty place stores the value
pub inserted_new : {V : Type 0} (m new : map.FinMap nat_cmp V) (v : ℕ) (x : V) (back : Option V)
    → is_some (map.get m v) ≡ false → back ≡ cond (is_some (map.get m v)) (Some x) None
    → new ≡ after_insert m v x (Ok back) → new ≡ map.insert m v x
inserted_new m new v x None absent standing after = after
inserted_new m new v x (Some y) absent standing after = let bad : Some y ≡ None = standing ∙ rw absent refl in cc
