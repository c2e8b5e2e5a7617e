-- Sets of views as finite maps.
use Rattle.std.proofs.Common.{◌≡◌, ℕ, Bool, true, false, ◌&&◌, ◌||◌, ◌==◌, nat_le, eqb, cond, List, [], ◌∷◌, ◌++◌, map, Option, Some, None, is_some, Result, Ok, Err, OnOk, OnErr, Bor, refl, ap, sym, ◌∙◌, subst, T, inl, inr}
use Rattle.std.specs.List.{AllByRecursion, list_any}
use Rattle.std.proofs.lemmas.List.Folds.{list_any-append}
use Rattle.std.specs.List.Sorted.{IsStrictlySortedBy}
use Rattle.std.specs.Option.{option_and_then, option_copied}
use Rattle.std.specs.Ordering.{nat_cmp, eq_by_cmp}
use Rattle.std.specs.Cmp.{nat_cmp_total}
use Rattle.std.specs.declared.cmp.Ordering.TheVariants.{Less}
use Rattle.std.specs.FinMap as fin
use Rattle.std.specs.FinMap.{FinMap}
use Rattle.std.specs.FinMap.Entries.{find, is_sorted, below_all}
use Rattle.std.proofs.lemmas.Bool.{cases_eq, eq-eqb, ne_eqb, eqb-true, false≢true}
use Rattle.simplex_view_maps.specs.Tracked.{at_or_above}
use Rattle.simplex_view_maps.proofs.Maps.{find_at_key, find_other, get-insert, get-kept, same_maps, entries_of_made, is_eq-nat_cmp}
use Rattle.simplex_resolver.specs.Repair.{has}
use Rattle.simplex_resolver.specs.Steps.{insert_new}
use Rattle.simplex_resolver.specs.ViewSets.{NotarizationsFacts, keyed, with_values, AreApart}

get-remove : {V : Type 0} (m : FinMap nat_cmp V) (v q : ℕ)
    → fin.get (fin.remove m v) q ≡ cond (eqb q v) None (fin.get m q)
get-remove m v q = fin.get-remove nat_cmp_total m v q ∙ ap (λ b. cond b None (fin.get m q)) (is_eq-nat_cmp q v)

all_below : (x : ℕ) (vs : List ℕ) → AllByRecursion (λ y. nat_cmp x y ≡ Less) vs → below_all nat_cmp x (keyed vs) ≡ true
all_below x [] below = refl
all_below x (v ∷ vs) below = rw below.0 (all_below x vs below.1)

-- views in order make entries in order
pub keyed_sorted : (vs : List ℕ) → IsStrictlySortedBy nat_cmp vs → is_sorted nat_cmp (keyed vs) ≡ true
unfolding IsStrictlySortedBy
keyed_sorted [] ordered = refl
keyed_sorted (v ∷ vs) ordered = rw (all_below v vs ordered.0) (keyed_sorted vs ordered.1)

find_keyed : (vs : List ℕ) (q : ℕ) → find nat_cmp q (keyed vs) ≡ cond (has vs q) (Some tt) None
find_keyed [] q = refl
find_keyed (v ∷ vs) q = elim (cases_eq q v) [
  | inl same ↦ find_at_key q (v, tt) (keyed vs) same ∙ rw (eq-eqb q v same) refl
  | inr other ↦ find_other q (v, tt) (keyed vs) other ∙ find_keyed vs q ∙ rw (ne_eqb q v other) refl
]

or_true : (b : Bool) → (b || true) ≡ true
or_true true = refl
or_true false = refl

T_from_true : (b : Bool) → b ≡ true → T b
T_from_true b e = subst T (sym e) tt

-- a view is in the map exactly if it is in the list
pub get_keyed : (vs : List ℕ) → is_sorted nat_cmp (keyed vs) ≡ true → (q : ℕ)
    → fin.get (fin.from_sorted {R = nat_cmp} (keyed vs)) q ≡ cond (has vs q) (Some tt) None
get_keyed vs sorted q = fin.get-from_sorted nat_cmp (keyed vs) q (T_from_true _ sorted) ∙ find_keyed vs q

module _ (vs us : List ℕ) (m : FinMap nat_cmp (Unit {0})) (is : fin.from_sorted (keyed vs) ≡ m)
    (sorted : is_sorted nat_cmp (keyed vs) ≡ true) (ordered : is_sorted nat_cmp (keyed us) ≡ true) where
  got : (q : ℕ) → fin.get m q ≡ cond (has vs q) (Some tt) None
  got q = ap (λ n. fin.get n q) (sym is) ∙ get_keyed vs sorted q

  pub inserted : (v : ℕ) → ((q : ℕ) → has us q ≡ (q == v || has vs q)) → fin.from_sorted (keyed us) ≡ fin.insert m v tt
  inserted v each = same_maps _ _ (λ q. get_keyed us ordered q ∙ ap (λ b. cond b (Some tt) None) (each q)
      ∙ by_both (q == v) (has vs q) ∙ ap (cond (q == v) (Some tt)) (sym (got q)) ∙ sym (get-insert m v tt q))
    where
      by_both : (b c : Bool) → cond {A = Option (Unit {0})} (b || c) (Some tt) None ≡ cond b (Some tt)
          (cond c (Some tt) None)
      by_both true c = refl
      by_both false c = refl

  pub removed : (v : ℕ) → ((q : ℕ) → has us q ≡ cond (q == v) false (has vs q))
      → fin.from_sorted (keyed us) ≡ fin.remove m v
  removed v each = same_maps _ _ (λ q. get_keyed us ordered q ∙ ap (λ b. cond b (Some tt) None) (each q)
      ∙ by_both (q == v) (has vs q) ∙ ap (cond (q == v) None) (sym (got q)) ∙ sym (get-remove m v q))
    where
      by_both : (b c : Bool) → cond {A = Option (Unit {0})} (cond b false c) (Some tt) None ≡ cond b None
          (cond c (Some tt) None)
      by_both true c = refl
      by_both false c = refl

  pub lowered : (v : ℕ) → ((q : ℕ) → has us q ≡ (nat_le v q && has vs q)) → fin.from_sorted (keyed us) ≡ at_or_above m v
  lowered v each = same_maps _ _ (λ q. get_keyed us ordered q ∙ ap (λ b. cond b (Some tt) None) (each q)
      ∙ by_both (nat_le v q) (has vs q) ∙ ap (λ o. cond (nat_le v q) o None) (sym (got q))
      ∙ sym (get-kept m (λ u. nat_le v u) q))
    where
      by_both : (b c : Bool) → cond {A = Option (Unit {0})} (b && c) (Some tt) None ≡ cond b (cond c (Some tt) None)
          None
      by_both true c = refl
      by_both false c = refl

module _ (vs : List ℕ) (m : FinMap nat_cmp (Unit {0})) (is : fin.from_sorted (keyed vs) ≡ m)
    (sorted : is_sorted nat_cmp (keyed vs) ≡ true) where
  pub contained : (q : ℕ) → has vs q ≡ fin.contains_key m q
  contained q = by_test (has vs q) ∙ sym (ap is_some (ap (λ n. fin.get n q) (sym is) ∙ get_keyed vs sorted q))
    where
      by_test : (b : Bool) → b ≡ is_some (cond {A = Option (Unit {0})} b (Some tt) None)
      by_test true = refl
      by_test false = refl

  views_of : (us : List ℕ) → map (λ e. e.0) (keyed us) ≡ us
  views_of [] = refl
  views_of (u ∷ us) = ap (λ ws. u ∷ ws) (views_of us)

  pub keys_keyed : vs ≡ fin.keys m
  keys_keyed = sym (ap (map (λ e. e.0)) (sym (entries_of_made _ m is sorted)) ∙ views_of vs)

-- a view that is there is there once
pub there_once : (m : FinMap nat_cmp (Unit {0})) (v : ℕ) → fin.insert m v tt ≡ insert_new m v tt
there_once m v = by_test (fin.contains_key m v) refl
  where
    unit_there : (o : Option (Unit {0})) → is_some o ≡ true → Some tt ≡ o
    unit_there None is = absurd (false≢true is)
    unit_there (Some u) is = refl

    by_test : (b : Bool) → fin.contains_key m v ≡ b → fin.insert m v tt ≡ cond b m (fin.insert m v tt)
    by_test false is = refl
    by_test true is = same_maps _ _ (λ q. get-insert m v tt q ∙ elim (cases_eq q v) [
      | inl same ↦ rw (eq-eqb q v same) (unit_there (fin.get m v) is ∙ ap (fin.get m) (sym same))
      | inr other ↦ rw (ne_eqb q v other) refl
    ])

-- ---- views with values

-- a loan has a result exactly if there is a value
pub same_some : {V : Type 0} (o : Option (Bor V)) (b : Bool) (w : Option V) → b ≡ is_some o → option_copied o ≡ w
    → b ≡ is_some w
same_some None b w test value = test ∙ ap is_some value
same_some (Some x) b w test value = test ∙ ap is_some value

absent : {V : Type 0} (o : Option V) → is_some o ≡ false → o ≡ None
absent None is = refl
absent (Some x) is = absurd (false≢true (sym is))

-- the entry at a view, by its value and its places among the failed and the noted views
abbrev entry : {V : Type 0} → Option V → Option (Unit {0}) → Option (Unit {0}) → Option (Option V)
entry value failed noted = cond (is_some value || (is_some failed || is_some noted)) (Some value) None

module _ {V : Type 0} where
  find_value : (es : List (ℕ × V)) (rest : List (ℕ × Option V)) (q : ℕ)
      → find nat_cmp q (map (λ e. (e.0, Some e.1)) es ++ rest) ≡ cond (is_some (find nat_cmp q es))
      (Some (find nat_cmp q es)) (find nat_cmp q rest)
  find_value [] rest q = refl
  find_value (e ∷ es) rest q = elim (cases_eq q e.0) [
    | inl same ↦ find_at_key q (e.0, Some e.1) _ same ∙ rw (find_at_key q e es same) refl
    | inr other ↦ find_other q (e.0, Some e.1) _ other ∙ find_value es rest q ∙ rw (find_other q e es other) refl
  ]

  abbrev bare : List ℕ → List (ℕ × Option V)
  bare vs = map (λ v. (v, None)) vs

  find_none : (vs : List ℕ) (q : ℕ) → find nat_cmp q (bare vs) ≡ cond (list_any (eq_by_cmp nat_cmp q) vs) (Some None)
      None
  find_none [] q = refl
  find_none (v ∷ vs) q = elim (cases_eq q v) [
    | inl same ↦ find_at_key q (v, None) _ same ∙ rw (is_eq-nat_cmp q v, eq-eqb q v same) refl
    | inr other ↦ find_other q (v, None) _ other ∙ find_none vs q ∙ rw (is_eq-nat_cmp q v, ne_eqb q v other) refl
  ]

  by_value : (value : Option V) (b : Bool) → cond (is_some value) (Some value) (cond b (Some None) None) ≡ cond
      (is_some value || b) (Some value) None
  by_value None b = refl
  by_value (Some x) b = refl

  get_valued : (values : FinMap nat_cmp V) (failed noted : FinMap nat_cmp (Unit {0})) (q : ℕ)
      → fin.get (with_values values failed noted) q ≡ entry (fin.get values q) (fin.get failed q) (fin.get noted q)
  get_valued values failed noted q =
      fin.get-from_entries nat_cmp_total _ q
      ∙ find_value (fin.entries values) _ q
      ∙ ap (cond (is_some (find nat_cmp q (fin.entries values))) (Some (find nat_cmp q (fin.entries values))))
      (find_none (fin.keys failed ++ fin.keys noted) q ∙ ap (λ b. cond b (Some None) None) among)
      ∙ by_value (find nat_cmp q (fin.entries values)) _
      ∙ ap (λ o. cond (is_some o || (fin.contains_key failed q || fin.contains_key noted q)) (Some o) None)
      (sym (fin.get-entries values q))
    where
      among : list_any (eq_by_cmp nat_cmp q) (fin.keys failed ++ fin.keys noted)
          ≡ (fin.contains_key failed q || fin.contains_key noted q)
      among = list_any-append (eq_by_cmp nat_cmp q) (fin.keys failed) (fin.keys noted)
          ∙ (λ k. sym (fin.contains_key-keys failed q) k || sym (fin.contains_key-keys noted q) k)

  -- if nothing is stored
  pub none_valued : (values : FinMap nat_cmp V) (failed noted : FinMap nat_cmp (Unit {0})) → values ≡ fin.empty
      → failed ≡ fin.empty → noted ≡ fin.empty → with_values values failed noted ≡ fin.empty
  none_valued values failed noted no_value none_failed none_noted = same_maps _ _ (λ q.
      get_valued values failed noted q
      ∙ (λ k. entry (fin.get (no_value k) q) (fin.get (none_failed k) q) (fin.get (none_noted k) q))
      ∙ (λ k. entry (fin.get-empty {X = V} nat_cmp q k) (fin.get-empty {X = Unit {0}} nat_cmp q k)
      (fin.get-empty {X = Unit {0}} nat_cmp q k))
      ∙ sym (fin.get-empty nat_cmp q))

  module _ (values : FinMap nat_cmp V) (failed noted : FinMap nat_cmp (Unit {0})) (x : FinMap nat_cmp (Option V))
      (is : with_values values failed noted ≡ x) where
    got_valued : (q : ℕ) → fin.get x q ≡ entry (fin.get values q) (fin.get failed q) (fin.get noted q)
    got_valued q = ap (λ m. fin.get m q) (sym is) ∙ get_valued values failed noted q

    pub value_seen : (q : ℕ) → fin.get values q ≡ option_and_then (λ o. o) (fin.get x q)
    value_seen q = by_cases (fin.get values q) (is_some (fin.get failed q) || is_some (fin.get noted q))
        ∙ sym (ap (option_and_then (λ o. o)) (got_valued q))
      where
        by_cases : (o : Option V) (b : Bool) → o ≡ option_and_then (λ o. o) (cond (is_some o || b) (Some o) None)
        by_cases None true = refl
        by_cases None false = refl
        by_cases (Some y) b = refl

    pub contains_seen : (q : ℕ) → (fin.contains_key values q || (fin.contains_key failed q || fin.contains_key noted q))
        ≡ fin.contains_key x q
    contains_seen q = by_test _ (fin.get values q) ∙ sym (ap is_some (got_valued q))
      where
        by_test : (b : Bool) (o : Option V) → b ≡ is_some (cond b (Some o) None)
        by_test true o = refl
        by_test false o = refl

    -- if there is no value, the view is there with none, if it is there
    noted_once : (v : ℕ) → fin.contains_key values v ≡ false → insert_new x v None ≡ fin.insert x v None
    noted_once v none = by_test (is_some (fin.get failed v) || is_some (fin.get noted v))
        (got_valued v ∙ ap (λ o. cond (is_some o || (is_some (fin.get failed v) || is_some (fin.get noted v))) (Some o)
        None) (absent (fin.get values v) none))
      where
        by_test : (b : Bool) → fin.get x v ≡ cond b (Some None) None → insert_new x v None ≡ fin.insert x v None
        by_test false at = ap (λ o. cond (is_some o) x (fin.insert x v None)) at
        by_test true at = ap (λ o. cond (is_some o) x (fin.insert x v None)) at
            ∙ same_maps _ _ (λ q. elim (cases_eq q v) [
              | inl same ↦ ap (fin.get x) same ∙ at ∙ sym (get-insert x v None q ∙ rw (eq-eqb q v same) refl)
              | inr other ↦ sym (get-insert x v None q ∙ rw (ne_eqb q v other) refl)
            ])

    noted_at : (v q : ℕ) → fin.contains_key values v ≡ false → (b : Bool) → eqb q v ≡ b
        → entry (fin.get values q) (fin.get failed q) (cond b (Some tt) (fin.get noted q)) ≡ cond b (Some None)
        (entry (fin.get values q) (fin.get failed q) (fin.get noted q))
    noted_at v q none false at = refl
    noted_at v q none true at =
        ap (λ o. entry o (fin.get failed q) (Some tt))
        (ap (fin.get values) (eqb-true q v at) ∙ absent (fin.get values v) none)
        ∙ ap (λ b. cond b (Some None) None) (or_true (is_some (fin.get failed q)))

    pub noted_value : (v : ℕ) → fin.contains_key values v ≡ false
        → with_values values failed (fin.insert noted v tt) ≡ insert_new x v None
    noted_value v none = same_maps _ _ (λ q.
        get_valued values failed (fin.insert noted v tt) q
        ∙ ap (entry (fin.get values q) (fin.get failed q)) (get-insert noted v tt q)
        ∙ noted_at v q none (eqb q v) refl
        ∙ ap (cond (eqb q v) (Some None)) (sym (got_valued q))
        ∙ sym (get-insert x v None q)) ∙ sym (noted_once v none)

    pub certified_value : (v : ℕ) (y : V) → with_values (fin.insert values v y) failed (fin.remove noted v) ≡ fin.insert
        x v (Some y)
    certified_value v y = same_maps _ _ (λ q.
        get_valued (fin.insert values v y) failed (fin.remove noted v) q
        ∙ (λ k. entry (get-insert values v y q k) (fin.get failed q) (get-remove noted v q k))
        ∙ by_test (eqb q v) (fin.get values q) (fin.get failed q) (fin.get noted q)
        ∙ ap (cond (eqb q v) (Some (Some y))) (sym (got_valued q))
        ∙ sym (get-insert x v (Some y) q))
      where
        by_test : (b : Bool) (o : Option V) (f n : Option (Unit {0}))
            → entry (cond b (Some y) o) f (cond b None n) ≡ cond b (Some (Some y)) (entry o f n)
        by_test true o f n = refl
        by_test false o f n = refl

    pub refused_value : (v : ℕ) → with_values (fin.remove values v) (fin.insert failed v tt)
        (fin.remove noted v) ≡ fin.insert x v None
    refused_value v = same_maps _ _ (λ q.
        get_valued (fin.remove values v) (fin.insert failed v tt) (fin.remove noted v) q
        ∙ (λ k. entry (get-remove values v q k) (get-insert failed v tt q k) (get-remove noted v q k))
        ∙ by_test (eqb q v) (fin.get values q) (fin.get failed q) (fin.get noted q)
        ∙ ap (cond (eqb q v) (Some None)) (sym (got_valued q))
        ∙ sym (get-insert x v None q))
      where
        by_test : (b : Bool) (o : Option V) (f n : Option (Unit {0}))
            → entry (cond b None o) (cond b (Some tt) f) (cond b None n) ≡ cond b (Some None) (entry o f n)
        by_test true o f n = refl
        by_test false o f n = refl

    pub lowered_value : (v : ℕ) → with_values (at_or_above values v) (at_or_above failed v)
        (at_or_above noted v) ≡ at_or_above x v
    lowered_value v = same_maps _ _ (λ q.
        get_valued (at_or_above values v) (at_or_above failed v) (at_or_above noted v) q
        ∙ (λ k. entry (get-kept values (λ u. nat_le v u) q k) (get-kept failed (λ u. nat_le v u) q k)
        (get-kept noted (λ u. nat_le v u) q k))
        ∙ by_test (nat_le v q) (fin.get values q) (fin.get failed q) (fin.get noted q)
        ∙ ap (λ o. cond (nat_le v q) o None) (sym (got_valued q))
        ∙ sym (get-kept x (λ u. nat_le v u) q))
      where
        by_test : (b : Bool) (o : Option V) (f n : Option (Unit {0}))
            → entry (cond b o None) (cond b f None) (cond b n None) ≡ cond b (entry o f n) None
        by_test true o f n = refl
        by_test false o f n = refl

-- ---- the same of the calls of `Notarizations`, which are seen as n

abbrev facts_of_parts : FinMap nat_cmp (List ℕ) → FinMap nat_cmp (Unit {0}) → FinMap nat_cmp (Unit {0})
    → NotarizationsFacts
facts_of_parts values failed noted = record { by_view = with_values values failed noted; failed = failed }

module _ (values : FinMap nat_cmp (List ℕ)) (failed noted : FinMap nat_cmp (Unit {0})) (n : NotarizationsFacts)
    (is : facts_of_parts values failed noted ≡ n) where
  by_view_is : with_values values failed noted ≡ n.by_view
  by_view_is = ap (λ m. m.by_view) is

  pub seen_value : (q : ℕ) → fin.get values q ≡ option_and_then (λ o. o) (fin.get n.by_view q)
  seen_value q = value_seen values failed noted n.by_view by_view_is q

  pub seen_contains : (q : ℕ) → (fin.contains_key values q || (fin.contains_key failed q || fin.contains_key noted q))
      ≡ fin.contains_key n.by_view q
  seen_contains q = contains_seen values failed noted n.by_view by_view_is q

  -- a view that has a value, or has failed, is there
  pub value_there : (v : ℕ) → fin.contains_key values v ≡ true → fin.contains_key n.by_view v ≡ true
  value_there v there = sym (seen_contains v)
      ∙ ap (λ b. b || (fin.contains_key failed v || fin.contains_key noted v)) there

  pub failed_there : (v : ℕ) → fin.contains_key failed v ≡ true → fin.contains_key n.by_view v ≡ true
  failed_there v there = sym (seen_contains v)
      ∙ ap (λ b. fin.contains_key values v || (b || fin.contains_key noted v)) there
      ∙ or_true (fin.contains_key values v)

  pub noted_there : (v : ℕ) → fin.contains_key values v ≡ false → fin.contains_key failed v ≡ false
      → fin.contains_key noted v ≡ fin.contains_key n.by_view v
  noted_there v no_value not_failed = sym (λ k. no_value k || (not_failed k || fin.contains_key noted v))
      ∙ seen_contains v

  -- and is not noted anew
  pub seen_there : (v : ℕ) → fin.contains_key n.by_view v ≡ true
      → n ≡ record n { by_view = insert_new n.by_view v None }
  seen_there v there k =
      record { by_view = sym (ap (λ b. cond b n.by_view (fin.insert n.by_view v None)) there) k; failed = n.failed }

  pub seen_noted : {A E : Type 0} (r : Result A E) (new : FinMap nat_cmp (Unit {0})) (v : ℕ)
      → fin.contains_key values v ≡ false
      → OnOk r (new ≡ fin.insert noted v tt) → OnOk r
      (facts_of_parts values failed new ≡ record n { by_view = insert_new n.by_view v None })
  seen_noted (Err e) new v none after = tt
  seen_noted (Ok a) new v none after =
      let whole = ap (with_values values failed) after ∙ noted_value values failed noted n.by_view by_view_is v none in
      λ k. record { by_view = whole k; failed = (is k).failed }

  pub seen_certified : (vs : FinMap nat_cmp (List ℕ)) (new : FinMap nat_cmp (Unit {0})) (v : ℕ) (y : List ℕ)
      → vs ≡ fin.insert values v y → new ≡ fin.remove noted v
      → facts_of_parts vs failed new ≡ record n { by_view = fin.insert n.by_view v (Some y) }
  seen_certified vs new v y put taken =
      let whole = (λ k. with_values (put k) failed (taken k))
      ∙ certified_value values failed noted n.by_view by_view_is v y in
      λ k. record { by_view = whole k; failed = (is k).failed }

  pub seen_refused : (vs : FinMap nat_cmp (List ℕ)) (fs new : FinMap nat_cmp (Unit {0})) (v : ℕ)
      → vs ≡ fin.remove values v → fs ≡ fin.insert failed v tt → new ≡ fin.remove noted v
      → facts_of_parts vs fs new ≡ record { by_view = fin.insert n.by_view v None; failed = insert_new n.failed v tt }
  seen_refused vs fs new v gone put taken =
      let whole = (λ k. with_values (gone k) (put k) (taken k))
      ∙ refused_value values failed noted n.by_view by_view_is v in
      let among = put ∙ there_once failed v ∙ ap (λ m. insert_new m.failed v tt) is in
      λ k. record { by_view = whole k; failed = among k }

  pub seen_lowered : (vs : FinMap nat_cmp (List ℕ)) (fs new : FinMap nat_cmp (Unit {0})) (v : ℕ)
      → vs ≡ at_or_above values v → fs ≡ at_or_above failed v → new ≡ at_or_above noted v
      → facts_of_parts vs fs new ≡ record { by_view = at_or_above n.by_view v; failed = at_or_above n.failed v }
  seen_lowered vs fs new v values_left failed_left noted_left =
      let whole = (λ k. with_values (values_left k) (failed_left k) (noted_left k))
      ∙ lowered_value values failed noted n.by_view by_view_is v in
      let among = failed_left ∙ ap (λ m. at_or_above m.failed v) is in
      λ k. record { by_view = whole k; failed = among k }

-- ---- no noted view has a value or has failed

module _ {V : Type 0} where
  -- of one view, after a change where b holds
  apart_put : (b : Bool) (o : Option V) (f n : Option (Unit {0})) (y : V)
      → (is_some n ≡ true → (is_some o || is_some f) ≡ false)
      → is_some (cond b None n) ≡ true → (is_some (cond b (Some y) o) || is_some f) ≡ false
  apart_put true o f n y apart there = absurd (false≢true there)
  apart_put false o f n y apart there = apart there

  apart_failed : (b : Bool) (o : Option V) (f n : Option (Unit {0}))
      → (is_some n ≡ true → (is_some o || is_some f) ≡ false)
      → is_some (cond b None n) ≡ true → (is_some (cond b None o) || is_some (cond b (Some tt) f)) ≡ false
  apart_failed true o f n apart there = absurd (false≢true there)
  apart_failed false o f n apart there = apart there

  apart_kept : (b : Bool) (o : Option V) (f n : Option (Unit {0}))
      → (is_some n ≡ true → (is_some o || is_some f) ≡ false)
      → is_some (cond b n None) ≡ true → (is_some (cond b o None) || is_some (cond b f None)) ≡ false
  apart_kept true o f n apart there = apart there
  apart_kept false o f n apart there = absurd (false≢true there)

  apart_added : (b : Bool) (o : Option V) (f n : Option (Unit {0})) → (b ≡ true → (is_some o || is_some f) ≡ false)
      → (is_some n ≡ true → (is_some o || is_some f) ≡ false)
      → is_some (cond b (Some tt) n) ≡ true → (is_some o || is_some f) ≡ false
  apart_added true o f n here apart there = here refl
  apart_added false o f n here apart there = apart there

  pub none_noted : (values : FinMap nat_cmp V) (failed noted : FinMap nat_cmp (Unit {0})) → noted ≡ fin.empty
      → AreApart values failed noted
  none_noted values failed noted none q there =
      absurd (false≢true (sym (ap (λ m. fin.contains_key m q) none ∙ ap is_some (fin.get-empty nat_cmp q)) ∙ there))

  module _ (values : FinMap nat_cmp V) (failed noted : FinMap nat_cmp (Unit {0}))
      (apart : AreApart values failed noted) where
    pub noted_apart : {A E : Type 0} (r : Result A E) (new : FinMap nat_cmp (Unit {0})) (v : ℕ)
        → fin.contains_key values v ≡ false → fin.contains_key failed v ≡ false
        → OnOk r (new ≡ fin.insert noted v tt) → OnErr r (new ≡ noted) → AreApart values failed new
    noted_apart (Err e) new v no_value not_failed after refused = subst (AreApart values failed) (sym refused) apart
    noted_apart (Ok a) new v no_value not_failed after refused = λ q there.
        apart_added (eqb q v) (fin.get values q) (fin.get failed q) (fin.get noted q)
        (λ at. (λ k. is_some (fin.get values (eqb-true q v at k)) || is_some (fin.get failed (eqb-true q v at k)))
        ∙ (λ k. no_value k || not_failed k))
        (apart q) (sym (ap (λ m. fin.contains_key m q) after ∙ ap is_some (get-insert noted v tt q)) ∙ there)

    pub certified_apart : (vs : FinMap nat_cmp V) (new : FinMap nat_cmp (Unit {0})) (v : ℕ) (y : V)
        → vs ≡ fin.insert values v y → new ≡ fin.remove noted v → AreApart vs failed new
    certified_apart vs new v y put taken q there =
        (λ k. is_some ((ap (λ m. fin.get m q) put ∙ get-insert values v y q) k) || is_some (fin.get failed q))
        ∙ apart_put (eqb q v) (fin.get values q) (fin.get failed q) (fin.get noted q) y (apart q)
        (sym (ap (λ m. fin.contains_key m q) taken ∙ ap is_some (get-remove noted v q)) ∙ there)

    pub failed_apart : (vs : FinMap nat_cmp V) (fs new : FinMap nat_cmp (Unit {0})) (v : ℕ) → vs ≡ fin.remove values v
        → fs ≡ fin.insert failed v tt → new ≡ fin.remove noted v → AreApart vs fs new
    failed_apart vs fs new v gone put taken q there =
        (λ k. is_some ((ap (λ m. fin.get m q) gone ∙ get-remove values v q) k) || is_some
        ((ap (λ m. fin.get m q) put ∙ get-insert failed v tt q) k))
        ∙ apart_failed (eqb q v) (fin.get values q) (fin.get failed q) (fin.get noted q) (apart q)
        (sym (ap (λ m. fin.contains_key m q) taken ∙ ap is_some (get-remove noted v q)) ∙ there)

    pub lowered_apart : (vs : FinMap nat_cmp V) (fs new : FinMap nat_cmp (Unit {0})) (v : ℕ) → vs ≡ at_or_above values v
        → fs ≡ at_or_above failed v → new ≡ at_or_above noted v → AreApart vs fs new
    lowered_apart vs fs new v values_left failed_left noted_left q there =
        (λ k. is_some ((ap (λ m. fin.get m q) values_left ∙ get-kept values (λ u. nat_le v u) q) k) || is_some
        ((ap (λ m. fin.get m q) failed_left ∙ get-kept failed (λ u. nat_le v u) q) k))
        ∙ apart_kept (nat_le v q) (fin.get values q) (fin.get failed q) (fin.get noted q) (apart q)
        (sym (ap (λ m. fin.contains_key m q) noted_left ∙ ap is_some (get-kept noted (λ u. nat_le v u) q)) ∙ there)
