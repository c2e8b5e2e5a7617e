-- A finite map from views, by its entries.
use Rattle.std.proofs.Common.{◌≡◌, ◌⊎◌, ℕ, ◌+◌, ◌-◌, ◌^◌, ◌<◌, ◌≤◌, Bool, true, false, cond, ltb, leb, not, List, [], ◌∷◌, length, get_or, take, drop, set, Option, Some, None, slice_get, is_some, filter, T, eqb, refl, ap, sym, ◌∙◌, subst, inl, inr, arith}
use Rattle.std.specs.List.{insert, remove}
use Rattle.std.proofs.lemmas.List.{take_all}
use Rattle.std.specs.Ordering.{nat_cmp, is_lt, eq_by_cmp}
use Rattle.std.proofs.lemmas.Bool.{cases_eq, cases_lt, lt-ltb, le-ltb, ltb-true, ltb-false, eq-eqb, ne_eqb, eqb-true, false≢true}
use Rattle.std.proofs.lemmas.Option.{slice_get_cases, get_or_from_slice_get}
use Rattle.std.proofs.lemmas.Bool.Decides.{nat_tests}
use Rattle.std.specs.Cmp.{nat_cmp_total}
use Rattle.std.specs.FinMap as map
use Rattle.std.specs.FinMap.Entries.{find, where_key, is_sorted-where_key, find-where_key}
use Rattle.simplex_view_maps.specs.Tracked.{below, at_or_above}
use Rattle.simplex_types.proofs.Digits.{IsLeft}
use Rattle.simplex_view_maps.proofs.RisingEntries.{Rises, rises, place, lower-take, upper-drop, place-le-length, below_place, value_if_at, find_at, place-next, climbs, put_absent, put_present, removed_at}

true_from_T : (b : Bool) → T b → b ≡ true
true_from_T true t = refl
true_from_T false t = absurd t

T_from_true : (b : Bool) → b ≡ true → T b
T_from_true b e = subst T (sym e) tt

pub is_lt-nat_cmp : (x y : ℕ) → is_lt (nat_cmp x y) ≡ ltb x y
is_lt-nat_cmp x y = grind (arith, nat_tests)

-- a loan says the same by two functions that agree
pub lent_alike : {N W M D : Type 0} {name : N} {f g : W → M} → ((w : W) → f w ≡ g w)
    → ◌≡◌ {A = (N × (W → M)) ⊎ D} (inl (name, f)) (inl (name, g))
lent_alike {name = name} alike i = inl (name, λ w. alike w i)

cases_bool : (b : Bool) → (b ≡ true) ⊎ (b ≡ false)
cases_bool true = inl refl
cases_bool false = inr refl

none_from_is_some : {V : Type 0} (o : Option V) → is_some o ≡ false → o ≡ None
none_from_is_some None e = refl
none_from_is_some (Some x) e = absurd (false≢true (sym e))

-- a view is above another exactly where it is some distance above it
pub far_above : (view other : ℕ) → ltb 0 (view - other) ≡ ltb other view
far_above view other = elim (cases_lt other view) [
  | inl lower ↦ lt-ltb 0 (view - other) (omega (arith, lower)) ∙ sym (lt-ltb other view lower)
  | inr higher ↦ le-ltb 0 (view - other) (omega (arith, higher)) ∙ sym (le-ltb other view higher)
]

pub is_eq-nat_cmp : (x y : ℕ) → eq_by_cmp nat_cmp x y ≡ eqb x y
is_eq-nat_cmp x y = grind (arith, nat_tests)

-- a search that begins with fewer entries than there are
pub not_halved : (w n : ℕ) → w ≤ n → IsLeft 0 w n
not_halved w n fewer d fits =
    (omega arith, let none : d ≡ d - 0 = omega arith in subst (λ e. w < 2 ^ e) none (omega (arith, fits, fewer)))

-- an insert's result shows what was there before
pub stood : {V : Type 0} (b : Bool) (x y : V) → Some x ≡ cond b (Some y) None → b ≡ true
stood true x y is = refl
stood false x y is = cc

module _ {V : Type 0} where
  pub find_at_key : (q : ℕ) (e : ℕ × V) (es : List (ℕ × V)) → q ≡ e.0 → find nat_cmp q (e ∷ es) ≡ Some e.1
  find_at_key q e es same = rw (is_eq-nat_cmp q e.0, eq-eqb q e.0 same) refl

  pub find_other : (q : ℕ) (e : ℕ × V) (es : List (ℕ × V)) → (q ≡ e.0 → ⊥) → find nat_cmp q (e ∷ es) ≡ find nat_cmp q es
  find_other q e es other = rw (is_eq-nat_cmp q e.0, ne_eqb q e.0 other) refl

  -- a list that has the entries of a map is in order, and makes that map
  pub sorted_from_entries : (es : List (ℕ × V)) (m : map.FinMap nat_cmp V) → es ≡ map.entries m
      → map.is_sorted nat_cmp es ≡ true
  sorted_from_entries es m e = rw e (true_from_T _ (map.entries_sorted m))

  pub made_from_entries : (es : List (ℕ × V)) (m : map.FinMap nat_cmp V) → es ≡ map.entries m → map.from_sorted es ≡ m
  made_from_entries es m e =
      rw e (map.same_entries_map _ m (map.entries-from_sorted nat_cmp (map.entries m) (map.entries_sorted m)))

  -- the list that a map was made from has its entries
  pub entries_of_made : (es : List (ℕ × V)) (m : map.FinMap nat_cmp V) → map.from_sorted es ≡ m
      → map.is_sorted nat_cmp es ≡ true → es ≡ map.entries m
  entries_of_made es m e s = sym (map.entries-from_sorted nat_cmp es (T_from_true _ s)) ∙ ap map.entries e

  pub length_of_made : (es : List (ℕ × V)) (m : map.FinMap nat_cmp V) → map.from_sorted es ≡ m
      → map.is_sorted nat_cmp es ≡ true → length es ≡ map.len m
  length_of_made es m e s = ap length (entries_of_made es m e s) ∙ sym (map.len-entries m)

  pub made_empty : (es : List (ℕ × V)) → es ≡ [] → map.from_sorted {R = nat_cmp} es ≡ map.empty
  made_empty es e = rw e (let none : map.FinMap nat_cmp V = map.from_sorted [] in
      map.empty_of_len none (map.len-entries none ∙ ap length (map.entries-from_sorted nat_cmp [] tt)))

  pub map_rises : (m : map.FinMap nat_cmp V) → Rises (map.entries m)
  map_rises m = rises _ (true_from_T _ (map.entries_sorted m))

  pub get-kept : (m : map.FinMap nat_cmp V) (p : ℕ → Bool) (q : ℕ)
      → map.get (map.retain_keys m p) q ≡ cond (p q) (map.get m q) None
  get-kept m p q = map.get-retain_keys m p q (λ x tied. ap p (sym (map.nat_cmp-IsAntisymmetric q x tied)))

  -- maps that have the same value at each view are the same
  pub same_maps : (m n : map.FinMap nat_cmp V) → ((q : ℕ) → map.get m q ≡ map.get n q) → m ≡ n
  same_maps m n alike = map.same_map nat_cmp_total map.nat_cmp-IsAntisymmetric m n alike

  pub get-insert : (m : map.FinMap nat_cmp V) (v : ℕ) (x : V) (q : ℕ)
      → map.get (map.insert m v x) q ≡ cond (eqb q v) (Some x) (map.get m q)
  get-insert m v x q = map.get-insert nat_cmp_total m v x q
      ∙ ap (λ b. cond b (Some x) (map.get m q)) (is_eq-nat_cmp q v)

  pub below-below : (m : map.FinMap nat_cmp V) (from to : ℕ) → from ≤ to → below (below m to) from ≡ below m from
  below-below m from to h = same_maps _ _ (λ q. get-kept (below m to) (λ k. ltb k from) q ∙ elim (cases_lt q from) [
    | inl b ↦ rw (
      lt-ltb q from b,
      get-kept m (λ k. ltb k to) q,
      lt-ltb q to (omega arith),
      get-kept m (λ k. ltb k from) q,
      lt-ltb q from b,
    ) refl
    | inr b ↦ rw (le-ltb q from b, get-kept m (λ k. ltb k from) q, le-ltb q from b) refl
  ])

  pub entries-retain_keys : (m : map.FinMap nat_cmp V) (p : ℕ → Bool)
      → map.entries (map.retain_keys m p) ≡ filter (λ e. p e.0) (map.entries m)
  entries-retain_keys m p =
      let kept = where_key nat_cmp p (map.entries m) in
      let sorted = is_sorted-where_key nat_cmp p (map.entries m) (map.entries_sorted m) in
      let same : map.retain_keys m p ≡ map.from_sorted kept = same_maps _ _ (λ q.
      get-kept m p q ∙ ap (λ o. cond (p q) o None) (map.get-entries m q)
      ∙ sym (map.get-from_sorted nat_cmp kept q sorted
      ∙ find-where_key nat_cmp p q (λ x tied. ap p (sym (map.nat_cmp-IsAntisymmetric q x tied))) (map.entries m)))
      in
      ap map.entries same ∙ map.entries-from_sorted nat_cmp kept sorted

  pub entries-remove : (m : map.FinMap nat_cmp V) (v : ℕ)
      → map.entries (map.remove m v) ≡ filter (λ e. not (eqb e.0 v)) (map.entries m)
  entries-remove m v = ap map.entries without ∙ entries-retain_keys m (λ key. not (eqb key v))
    where
      without : map.remove m v ≡ map.retain_keys m (λ key. not (eqb key v))
      without = same_maps _ _ (λ q. map.get-remove nat_cmp_total m v q
          ∙ ap (λ b. cond b None (map.get m q)) (is_eq-nat_cmp q v) ∙ other (eqb q v) (map.get m q)
          ∙ sym (get-kept m (λ key. not (eqb key v)) q))
        where
          other : (b : Bool) (found : Option V) → cond b None found ≡ cond (not b) found None
          other true found = refl
          other false found = refl

  ends_within : (m : map.FinMap nat_cmp V) (v : ℕ) → map.len (below m v) ≤ map.len m
  ends_within m v =
      let n = map.len-entries (below m v) ∙ ap length (entries-retain_keys m (λ key. ltb key v)) in
      rw (n, map.len-entries m) (place-le-length v (map.entries m))

  module _ (m : map.FinMap nat_cmp V) (v : ℕ) where
    pub len-below : map.len (below m v) ≡ place v (map.entries m)
    len-below = map.len-entries _ ∙ ap length (entries-retain_keys m (λ key. ltb key v))

    pub entries-below : map.entries (below m v) ≡ take (map.len (below m v)) (map.entries m)
    entries-below = rw len-below (entries-retain_keys m (λ key. ltb key v) ∙ lower-take v _ (map_rises m))

    pub entries-at_or_above : map.entries (at_or_above m v) ≡ drop (map.len (below m v)) (map.entries m)
    entries-at_or_above = rw len-below (entries-retain_keys m (λ key. leb v key) ∙ upper-drop v _ (map_rises m))

    pub len-below-le-len : map.len (below m v) ≤ map.len m
    len-below-le-len = rw (len-below, map.len-entries m) (place-le-length v _)

    -- an entry is below v exactly where its index is below v's place
    pub below_at : (i : ℕ) (d : ℕ × V) → i < map.len m
        → ltb (get_or (map.entries m) i d).0 v ≡ ltb i (map.len (below m v))
    below_at i d h = rw len-below (below_place v _ i d (map_rises m) (rw map.len-entries at h))

    -- no more entries are below v than views from the first one on
    pub place_from_first : (d : ℕ × V) → 0 < map.len m → map.len (below m v) ≤ v - (get_or (map.entries m) 0 d).0
    place_from_first d some = elim (cases_lt 0 (map.len (below m v))) [
      | inl there ↦
          let es = map.entries m in
          let p = map.len (below m v) in
          let count = map.len-entries m in
          let within : p - 1 < length es = omega (arith, there, len-below-le-len, count) in
          let under = ltb-true (get_or es (p - 1) d).0 v
          (below_at (p - 1) d (omega (arith, within, count)) ∙ lt-ltb (p - 1) p (omega (arith, there))) in
          let up = climbs es 0 (p - 1) d (map_rises m) (omega arith) within in
          omega (arith, under, up, there)
      | inr none ↦ omega (arith, none)
    ]

    -- and no more at or above it than views up to the last one
    pub place_from_last : (d : ℕ × V) (end : ℕ) → end + 1 ≡ map.len m
        → map.len m ≤ map.len (below m v) + ((get_or (map.entries m) end d).0 + 1 - v)
    place_from_last d end is = elim (cases_lt (map.len (below m v)) (map.len m)) [
      | inl there ↦
          let es = map.entries m in
          let p = map.len (below m v) in
          let count = map.len-entries m in
          let above = ltb-false (get_or es p d).0 v (below_at p d there ∙ le-ltb p p (omega arith)) in
          let up = climbs es p end d (map_rises m) (omega (arith, there, is)) (omega (arith, is, count)) in
          omega (arith, above, up, is, there)
      | inr all ↦ omega (arith, all)
    ]

    -- v is looked up at its place
    pub get_at : map.get m v ≡ value_if_at v (slice_get (map.entries m) (map.len (below m v)))
    get_at = rw (len-below, map.get-entries m v) (find_at v _ (map_rises m))

    -- the same of a list that has the map's entries, and a number that is v's place
    pub place_within : (es : List (ℕ × V)) (r : ℕ) → es ≡ map.entries m → r ≡ map.len (below m v) → r ≤ length es
    place_within es r e p = rw (e, p, ← map.len-entries m) len-below-le-len

    pub below_read : (es : List (ℕ × V)) (r : ℕ) → es ≡ map.entries m → r ≡ map.len (below m v)
        → take r es ≡ map.entries (below m v)
    below_read es r e p = rw (e, p) (sym entries-below)

    pub at_or_above_read : (es : List (ℕ × V)) (r : ℕ) → es ≡ map.entries m → r ≡ map.len (below m v)
        → drop r es ≡ map.entries (at_or_above m v)
    at_or_above_read es r e p = rw (e, p) (sym entries-at_or_above)

    -- the entries at or below v end one past v's place where v is there, else at it
    pub len-below-next : map.len (below m (v + 1)) ≡ map.len (below m v) + cond (map.contains_key m v) 1 0
    len-below-next =
        let next : map.len (below m (v + 1)) ≡ place (v + 1) (map.entries m) = map.len-entries _
        ∙ ap length (entries-retain_keys m (λ key. ltb key (v + 1))) in
        rw (next, len-below, map.get-entries m v) (place-next v _ (map_rises m))

    pub len-below-there : (r : ℕ) → r ≡ map.len (below m v) → map.contains_key m v ≡ true
        → r + 1 ≡ map.len (below m (v + 1))
    len-below-there r at_place there = rw (len-below-next, there) (omega (arith, at_place))

    pub len-below-not_there : (r : ℕ) → r ≡ map.len (below m v) → map.contains_key m v ≡ false
        → r ≡ map.len (below m (v + 1))
    len-below-not_there r at_place none = rw (len-below-next, none) (omega (arith, at_place))

    -- where all entries are below v, none is at it
    pub len-below-end : (r : ℕ) → r ≡ map.len (below m v) → r ≡ map.len m → r ≡ map.len (below m (v + 1))
    len-below-end r at_place all = elim (cases_bool (map.contains_key m v)) [
      | inl there ↦ absurd (omega (arith, all, len-below-there r at_place there, ends_within m (v + 1)))
      | inr none ↦ len-below-not_there r at_place none
    ]

    -- the entry at v's place shows whether v is there
    pub contains_at : (e : ℕ × V) → slice_get (map.entries m) (map.len (below m v)) ≡ Some e
        → eqb e.0 v ≡ map.contains_key m v
    contains_at e here = rw (get_at, here) (elim (cases_eq e.0 v) [
      | inl same ↦ rw (eq-eqb e.0 v same, eq-eqb v e.0 (sym same)) refl
      | inr other ↦ rw (ne_eqb e.0 v other, ne_eqb v e.0 (λ same. other (sym same))) refl
    ])

    pub contains_past : slice_get (map.entries m) (map.len (below m v)) ≡ None → false ≡ map.contains_key m v
    contains_past here = rw (get_at, here) refl

    -- v is at its place, with its value
    pub value_at : (es : List (ℕ × V)) (r : ℕ) → es ≡ map.entries m → r ≡ map.len (below m v)
        → map.contains_key m v ≡ true → (r < length es) × ((e : ℕ × V) → e ≡ get_or es r e → Some e.1 ≡ map.get m v)
    value_at es r same at_place there = elim (slice_get_cases es r).1 [
      | inl found ↦
          let e = found.0 in
          let here : slice_get (map.entries m) (map.len (below m v)) ≡ Some e = rw (← same, ← at_place) found.2 in
          let at : eqb v e.0 ≡ true = eq-eqb v e.0 (sym (eqb-true e.0 v (contains_at e here ∙ there))) in (
            found.1,
            λ f read. ap (λ (x : ℕ × V). Some x.1) (read ∙ get_or_from_slice_get es r e f found.2)
                ∙ sym (rw (get_at, here, at) refl),
          )
      | inr past ↦ absurd (false≢true (contains_past (rw (← same, ← at_place) past.1) ∙ there))
    ]

    absent : map.contains_key m v ≡ false → map.get m v ≡ None
    absent none = none_from_is_some (map.get m v) none

    -- the view at its place is v
    pub view_at : (es : List (ℕ × V)) (r : ℕ) → es ≡ map.entries m → r ≡ map.len (below m v)
        → map.contains_key m v ≡ true → (e : ℕ × V) → e ≡ get_or es r e → e.0 ≡ v
    view_at es r same at_place there e read = elim (slice_get_cases es r).1 [
      | inl found ↦
          let f = found.0 in
          let here : slice_get (map.entries m) (map.len (below m v)) ≡ Some f = rw (← same, ← at_place) found.2 in
          ap (λ (x : ℕ × V). x.0) (read ∙ get_or_from_slice_get es r f e found.2)
          ∙ eqb-true f.0 v (contains_at f here ∙ there)
      | inr past ↦ absurd (false≢true (contains_past (rw (← same, ← at_place) past.1) ∙ there))
    ]

    pub entries-insert_absent : (x : V) → map.get m v ≡ None
        → insert (map.entries m) (map.len (below m v)) (v, x) ≡ map.entries (map.insert m v x)
    entries-insert_absent x none = rw (len-below, map.entries-insert nat_cmp_total m v x)
        (sym (put_absent v x _ (map_rises m) (rw (map.get-entries m v) at none)))

    pub entries-insert_present : (x : V) → is_some (map.get m v) ≡ true
        → set (map.entries m) (map.len (below m v)) (v, x) ≡ map.entries (map.insert m v x)
    entries-insert_present x some = rw (len-below, map.entries-insert nat_cmp_total m v x)
        (sym (put_present v x _ (map_rises m) (rw (map.get-entries m v) at some)))

    -- the list after an insert at v's place, where v is not there
    pub inserted : (es fs : List (ℕ × V)) (r : ℕ) (x : V) → es ≡ map.entries m → r ≡ map.len (below m v)
        → map.contains_key m v ≡ false → fs ≡ insert es r (v, x) → fs ≡ map.entries (map.insert m v x)
    inserted es fs r x same at_place none new = new ∙ rw (same, at_place) (entries-insert_absent x (absent none))

    -- the list after a value is written at v's place, where v is there
    pub written : (es : List (ℕ × V)) (r : ℕ) (e : ℕ × V) (x : V) → es ≡ map.entries m → r ≡ map.len (below m v)
        → map.contains_key m v ≡ true → e ≡ get_or es r e → set es r (e.0, x) ≡ map.entries (map.insert m v x)
    written es r e x same at_place there read =
        rw (view_at es r same at_place there e read, same, at_place) (entries-insert_present x there)

    -- the list after the entry at v's place is removed, where v is there
    pub removed : (es fs : List (ℕ × V)) (r : ℕ) → es ≡ map.entries m → r ≡ map.len (below m v)
        → map.contains_key m v ≡ true → fs ≡ remove es r → fs ≡ map.entries (map.remove m v)
    removed es fs r same at_place there left =
        left ∙ rw (same, at_place, len-below) (sym (removed_at v _ (map_rises m) (rw (map.get-entries m v) at there)))
        ∙ sym (entries-remove m v)

    -- where v is not there, nothing is removed
    pub remove_absent : map.contains_key m v ≡ false → m ≡ map.remove m v
    remove_absent none = same_maps _ _ (λ q.
        sym (map.get-remove nat_cmp_total m v q ∙ ap (λ b. cond b None (map.get m q)) (is_eq-nat_cmp q v)
        ∙ elim (cases_eq q v) [
          | inl same ↦ rw (eq-eqb q v same, same, absent none) refl
          | inr other ↦ rw (ne_eqb q v other) refl
        ]))

  -- the place of a view among the entries below a higher one
  pub place_below : (m : map.FinMap nat_cmp V) (from to r : ℕ) → from ≤ to → r ≡ map.len (below m from)
      → r ≡ map.len (below (below m to) from)
  place_below m from to r h p = p ∙ ap map.len (sym (below-below m from to h))

  -- the places of two views rise with them
  pub places_rise : (m : map.FinMap nat_cmp V) (from to r s : ℕ) → from ≤ to → r ≡ map.len (below m from)
      → s ≡ map.len (below m to) → r ≤ s
  places_rise m from to r s h p q = rw (q, map.len-entries (below m to))
      (place_within (below m to) from _ r refl (place_below m from to r h p))

  -- the entries between the places of two views
  pub between_read : (m : map.FinMap nat_cmp V) (from to : ℕ) (es : List (ℕ × V)) (r s : ℕ) → from ≤ to
      → es ≡ map.entries m → r ≡ map.len (below m from) → s ≡ map.len (below m to)
      → drop r (take s es) ≡ map.entries (at_or_above (below m to) from)
  between_read m from to es r s h e p q = at_or_above_read (below m to) from (take s es) r (below_read m to es s e q)
      (place_below m from to r h p)

  -- the entries from a view's place up to the end
  pub above_read : (m : map.FinMap nat_cmp V) (v : ℕ) (es : List (ℕ × V)) (r s : ℕ) → es ≡ map.entries m
      → r ≡ map.len (below m v) → s ≡ length es → drop r (take s es) ≡ map.entries (at_or_above m v)
  above_read m v es r s e p q = ap (drop r) (take_all s es (omega (arith, q))) ∙ at_or_above_read m v es r e p
