-- Finite maps from views, read by the tests that contracts make.
use Rattle.std.proofs.Common.{◌≡◌, ℕ, ◌+◌, ◌-◌, ◌<◌, Bool, true, false, ◌&&◌, ◌||◌, ◌==◌, nat_lt, nat_le, cond, List, [], ◌∷◌, length, slice_get, map, filter, Option, Some, None, is_some, refl, sym, ◌∙◌, ap, arith}
use Rattle.std.specs.List.{list_any}
use Rattle.std.specs.Ordering.{nat_cmp}
use Rattle.std.specs.Cmp.{nat_cmp_total}
use Rattle.std.specs.declared.cmp.Ordering.TheVariants.{Less, Equal, Greater}
use Rattle.std.specs.FinMap as finmap
use Rattle.std.specs.FinMap.{FinMap, put}
use Rattle.std.specs.FinMap.Entries.{by_order}
use Rattle.std.proofs.lemmas.Option.{slice_get-get_or}
use Rattle.std.proofs.lemmas.Bool.Decides.{nat_tests}
use Rattle.simplex_types.specs.Terms.{term_end, term_start, covers}
use Rattle.simplex_view_maps.specs.Tracked.{at_or_above, last_entry}
use Rattle.simplex_view_maps.specs.ByTerm.{has_covering, ByTermFacts, not_ended, covering}
use Rattle.simplex_view_maps.proofs.Maps.{get-insert, get-kept, entries-retain_keys, is_eq-nat_cmp, made_empty}
use Rattle.simplex_resolver.specs.Steps.{insert_new}
use Rattle.simplex_resolver.specs.Repair.{has}
use Rattle.simplex_resolver.proofs.Terms.{terms, AreTerms}
use Rattle.simplex_resolver.proofs.Views.{any-cond}

-- two tests that agree find the same
any_alike : {A : Type 0} (p q : A → Bool) (xs : List A) → ((x : A) → p x ≡ q x) → list_any p xs ≡ list_any q xs
any_alike p q xs same = ap (λ f. list_any f xs) (λ i x. same x i)

any_found : (p : ℕ → Bool) (us : List ℕ) (v : ℕ) → has us v ≡ true → p v ≡ true → list_any p us ≡ true
any_found p [] v h k = cc
any_found p (u ∷ us) v h k = let rest = any_found p us v in grind (arith, nat_tests, rest, h, k)

absorb-true : (b c : Bool) → ((b && true) || c) ≡ (b || c)
absorb-true true c = refl
absorb-true false c = refl

absorbed : (found any : Bool) → (found ≡ true → any ≡ true) → any ≡ (found || any)
absorbed true any h = h refl
absorbed false any h = refl

-- the map of nothing
pub keys-empty : (V : Type 0) → finmap.keys (finmap.empty {X = V} {R = nat_cmp}) ≡ []
keys-empty V = ap finmap.keys (sym (made_empty {V = V} [] refl))
    ∙ ap (map (λ e. e.0)) (finmap.entries-from_sorted nat_cmp [] tt)

pub contains-empty : (V : Type 0) (v : ℕ) → finmap.contains_key (finmap.empty {X = V} {R = nat_cmp}) v ≡ false
contains-empty V v = ap is_some (finmap.get-empty nat_cmp v)

module _ {V : Type 0} where
  any-map : (p : ℕ → Bool) (es : List (ℕ × V)) → list_any p (map (λ e. e.0) es) ≡ list_any (λ e. p e.0) es
  any-map p [] = refl
  any-map p (e ∷ es) = ap (λ b. p e.0 || b) (any-map p es)

  any-order : (q : (ℕ × V) → Bool) (b c : Bool) (less equal greater : List (ℕ × V))
      → list_any q (by_order (cond b Less (cond c Equal Greater)) less equal greater) ≡ cond b (list_any q less)
      (cond c (list_any q equal) (list_any q greater))
  any-order q true c less equal greater = refl
  any-order q false true less equal greater = refl
  any-order q false false less equal greater = refl

  any-put : (p : ℕ → Bool) (es : List (ℕ × V)) (u : ℕ) (x : V)
      → list_any (λ e. p e.0) (put nat_cmp u x es) ≡ (p u || list_any (λ e. p e.0) es)
  any-put p [] u x = refl
  any-put p (e ∷ es) u x =
      let step = any-order (λ (w : ℕ × V). p w.0) (nat_lt u e.0) (u == e.0) ((u, x) ∷ e ∷ es) ((e.0, x) ∷ es)
      (e ∷ put nat_cmp u x es) in
      let rest = any-put p es u x in grind (arith, nat_tests, step, rest)

  any-filter : (p q : ℕ → Bool) (es : List (ℕ × V))
      → list_any (λ e. p e.0) (filter (λ e. q e.0) es) ≡ list_any (λ e. q e.0 && p e.0) es
  any-filter p q [] = refl
  any-filter p q (e ∷ es) = any-cond (λ (w : ℕ × V). p w.0) (q e.0) e (filter (λ w. q w.0) es)
      ∙ ap (λ b. (q e.0 && p e.0) || b) (any-filter p q es)

  any_always : (q : (ℕ × V) → Bool) (es : List (ℕ × V)) → list_any (λ e. true) (filter q es) ≡ list_any q es
  any_always q [] = refl
  any_always q (e ∷ es) = any-cond (λ (w : ℕ × V). true) (q e) e (filter q es)
      ∙ absorb-true (q e) (list_any (λ e. true) (filter q es)) ∙ ap (λ b. q e || b) (any_always q es)

  some_last : (es : List (ℕ × V)) → is_some (slice_get es (length es - 1)) ≡ list_any (λ e. true) es
  some_last [] = refl
  some_last (e ∷ es) = ap is_some (slice_get-get_or (e ∷ es) (length (e ∷ es) - 1) e (omega arith))

  -- a map has a last entry among those that pass a test exactly where some key passes it
  pub some_last_key : (p : ℕ → Bool) (m : FinMap nat_cmp V)
      → is_some (last_entry (finmap.retain_keys m p)) ≡ list_any p (finmap.keys m)
  some_last_key p m =
      some_last (finmap.entries (finmap.retain_keys m p))
      ∙ ap (list_any (λ (e : ℕ × V). true)) (entries-retain_keys m p)
      ∙ any_always (λ e. p e.0) (finmap.entries m) ∙ sym (any-map p (finmap.entries m))

  -- some key passes a test, once an entry is put in or those that fail another test are taken out
  pub any_key-insert : (p : ℕ → Bool) (m : FinMap nat_cmp V) (u : ℕ) (x : V)
      → list_any p (finmap.keys (finmap.insert m u x)) ≡ (p u || list_any p (finmap.keys m))
  any_key-insert p m u x =
      any-map p _ ∙ ap (list_any (λ (e : ℕ × V). p e.0)) (finmap.entries-insert nat_cmp_total m u x)
      ∙ any-put p (finmap.entries m) u x
      ∙ ap (λ b. p u || b) (sym (any-map p (finmap.entries m)))

  pub any_key-kept : (p q : ℕ → Bool) (m : FinMap nat_cmp V)
      → list_any p (finmap.keys (finmap.retain_keys m q)) ≡ list_any (λ u. q u && p u) (finmap.keys m)
  any_key-kept p q m =
      any-map p _ ∙ ap (list_any (λ (e : ℕ × V). p e.0)) (entries-retain_keys m q) ∙ any-filter p q (finmap.entries m)
      ∙ sym (any-map (λ u. q u && p u) (finmap.entries m))

  pub has_keys : (m : FinMap nat_cmp V) (v : ℕ) → has (finmap.keys m) v ≡ finmap.contains_key m v
  has_keys m v = any_alike (λ u. v == u) _ (finmap.keys m) (λ u. sym (is_eq-nat_cmp v u))
      ∙ sym (finmap.contains_key-keys m v)

  pub any_key_at : (p : ℕ → Bool) (m : FinMap nat_cmp V) (u : ℕ) → finmap.contains_key m u ≡ true → p u ≡ true
      → list_any p (finmap.keys m) ≡ true
  any_key_at p m u h k = any_found p (finmap.keys m) u (has_keys m u ∙ h) k

  some-put : (b : Bool) (x : V) (o : Option V) → is_some (cond b (Some x) o) ≡ (b || is_some o)
  some-put true x o = refl
  some-put false x o = refl

  some-kept : (b : Bool) (o : Option V) → is_some (cond b o None) ≡ (b && is_some o)
  some-kept true o = refl
  some-kept false o = refl

  pub contains-insert : (m : FinMap nat_cmp V) (u : ℕ) (x : V) (v : ℕ)
      → finmap.contains_key (finmap.insert m u x) v ≡ (v == u || finmap.contains_key m v)
  contains-insert m u x v = ap is_some (get-insert m u x v) ∙ some-put (v == u) x (finmap.get m v)

  pub contains-kept : (m : FinMap nat_cmp V) (p : ℕ → Bool) (v : ℕ)
      → finmap.contains_key (finmap.retain_keys m p) v ≡ (p v && finmap.contains_key m v)
  contains-kept m p v = ap is_some (get-kept m p v) ∙ some-kept (p v) (finmap.get m v)

  pub contains-at_or_above : (m : FinMap nat_cmp V) (f v : ℕ) → f < v
      → finmap.contains_key (at_or_above m (f + 1)) v ≡ finmap.contains_key m v
  contains-at_or_above m f v h = let kept = contains-kept m (λ u. nat_le (f + 1) u) v in grind (arith, nat_tests, kept)

  -- a value that goes in where the view has none
  by_new : (b : Bool) (m : FinMap nat_cmp V) (u : ℕ) (x : V) (v : ℕ) → finmap.contains_key m u ≡ b
      → finmap.contains_key (cond b m (finmap.insert m u x)) v ≡ (v == u || finmap.contains_key m v)
  by_new true m u x v is = absorbed (v == u) (finmap.contains_key m v)
      (λ same. let at : v ≡ u = grind (arith, nat_tests, same) in ap (finmap.contains_key m) at ∙ is)
  by_new false m u x v is = contains-insert m u x v

  pub contains-insert_new : (m : FinMap nat_cmp V) (u : ℕ) (x : V) (v : ℕ)
      → finmap.contains_key (insert_new m u x) v ≡ (v == u || finmap.contains_key m v)
  contains-insert_new m u x v = by_new (finmap.contains_key m u) m u x v refl

  any_by_new : (b : Bool) (p : ℕ → Bool) (m : FinMap nat_cmp V) (u : ℕ) (x : V) → finmap.contains_key m u ≡ b
      → list_any p (finmap.keys (cond b m (finmap.insert m u x))) ≡ (p u || list_any p (finmap.keys m))
  any_by_new true p m u x is = absorbed (p u) (list_any p (finmap.keys m)) (λ found. any_key_at p m u is found)
  any_by_new false p m u x is = any_key-insert p m u x

  pub any_key-insert_new : (p : ℕ → Bool) (m : FinMap nat_cmp V) (u : ℕ) (x : V)
      → list_any p (finmap.keys (insert_new m u x)) ≡ (p u || list_any p (finmap.keys m))
  any_key-insert_new p m u x = any_by_new (finmap.contains_key m u) p m u x refl

-- a view is covered exactly where there is a nullification to serve for it
pub some_covering : (m : ByTermFacts (List ℕ)) (v : ℕ) → is_some (covering m v) ≡ has_covering m v
some_covering m v = some_last_key (λ u. covers m.term_length u v) m.by_view

-- a nullification that covers a view above f is in a term that ends above f
outlasts : (first last : ℕ → ℕ) → AreTerms first last → (f u v : ℕ) → f < v
    → (nat_lt f (last u) && (nat_le u v && (first u == first v))) ≡ (nat_le u v && (first u == first v))
outlasts first last ts f u v h = let there = ts.within u v in grind (arith, nat_tests, there)

pub has_covering-not_ended : (m : ByTermFacts (List ℕ)) (f v : ℕ) → 0 < m.term_length → f < v
    → has_covering (record m { by_view = not_ended m f }) v ≡ has_covering m v
has_covering-not_ended m f v long h =
    let t = m.term_length in
    any_key-kept (λ u. covers t u v) (λ u. nat_lt f (term_end t u)) m.by_view
    ∙ any_alike _ (λ u. covers t u v) (finmap.keys m.by_view)
    (λ u. outlasts (term_start t) (term_end t) (terms t long) f u v h)
