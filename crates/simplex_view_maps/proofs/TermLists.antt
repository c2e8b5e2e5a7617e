-- A list of terms: what it has at a view is what the list of the view's term has there.
use Rattle.std.proofs.Common.{◌≡◌, ◌⊎◌, ℕ, ◌+◌, ◌-◌, ◌*◌, ◌/◌, ◌<◌, ◌≤◌, Bool, true, false, cond, ◌&&◌, eqb, ltb, leb, List, [], ◌∷◌, ◌++◌, length, get_or, slice_get, Option, Some, None, IfSome, is_some, Result, Ok, Err, refl, ap, sym, ◌∙◌, subst, inl, inr, arith}
use Rattle.std.specs.Prelude.{map as map_list}
use Rattle.std.specs.List.{flat_map}
use Rattle.std.specs.Ordering.{nat_cmp}
use Rattle.std.specs.Cmp.{nat_cmp_total}
use Rattle.std.specs.FinMap as map
use Rattle.std.specs.FinMap.{FinMap, find}
use Rattle.std.proofs.lemmas.Bool.{cases_eq, cases_lt, le-leb, lt-leb, eq-eqb, ne_eqb, eqb-true, false≢true}
use Rattle.std.proofs.lemmas.Nat.{div-mul-add}
use Rattle.simplex_types.specs.Terms.{term_start, term_end}
use Rattle.simplex_types.specs.declared.types.fault.AllocFailed.{AllocFailed}
use Rattle.simplex_view_maps.specs.Tracked.{after_insert, at_or_above, last_entry}
use Rattle.simplex_view_maps.specs.ByTerm.{not_ended}
use Rattle.simplex_view_maps.specs.TermLists.{joined, IsOfTerm, AreByTerm}
use Rattle.simplex_view_maps.proofs.RisingEntries.{Rises, find_above}
use Rattle.simplex_view_maps.proofs.Maps.{find_at_key, find_other, map_rises, same_maps, get-kept, get-insert, is_eq-nat_cmp}
use Rattle.simplex_view_maps.proofs.Terms.{start_monotone, ends_above}

no_elements : {X : Type 0} (xs : List X) → length xs ≡ 0 → xs ≡ []
no_elements [] is = refl
no_elements (x ∷ xs) is = absurd (omega arith)

module _ {V : Type 0} where
  -- the value at a view of a term's list, if there is one
  abbrev pub value_in : Option (FinMap nat_cmp V) → ℕ → Option V
  value_in None q = None
  value_in (Some views) q = map.get views q

  some_or_none : (o : Option V) → ((x : V) × (o ≡ Some x)) ⊎ (o ≡ None)
  some_or_none None = inr refl
  some_or_none (Some x) = inl (x, refl)

  -- ---- a search in consecutive lists

  found_first : (q : ℕ) (es fs : List (ℕ × V)) (x : V) → find nat_cmp q es ≡ Some x → find nat_cmp q (es ++ fs) ≡ Some x
  found_first q [] fs x is = absurd (cc)
  found_first q (e ∷ es) fs x is = elim (cases_eq q e.0) [
    | inl same ↦ find_at_key q e (es ++ fs) same ∙ sym (find_at_key q e es same) ∙ is
    | inr other ↦ find_other q e (es ++ fs) other ∙ found_first q es fs x (sym (find_other q e es other) ∙ is)
  ]

  found_later : (q : ℕ) (es fs : List (ℕ × V)) → find nat_cmp q es ≡ None
      → find nat_cmp q (es ++ fs) ≡ find nat_cmp q fs
  found_later q [] fs is = refl
  found_later q (e ∷ es) fs is = elim (cases_eq q e.0) [
    | inl same ↦ absurd (let some : Some e.1 ≡ None = sym (find_at_key q e es same) ∙ is in cc)
    | inr other ↦ find_other q e (es ++ fs) other ∙ found_later q es fs (sym (find_other q e es other) ∙ is)
  ]

  abbrev entries_of : List (ℕ × FinMap nat_cmp V) → List (ℕ × V)
  entries_of ts = flat_map map.entries (map_list (λ t. t.1) ts)

  -- what is found after the first list has a higher key
  found_behind : (t : ℕ × FinMap nat_cmp V) (ts : List (ℕ × FinMap nat_cmp V)) (s : ℕ) (views : FinMap nat_cmp V)
      → Rises (t ∷ ts) → find nat_cmp s ts ≡ Some views → (t.0 < s) × (find nat_cmp s (t ∷ ts) ≡ Some views)
  found_behind t ts s views r is = elim (cases_lt t.0 s) [
    | inl above ↦ (above, find_other s t ts (λ same. omega (arith, above, same)) ∙ is)
    | inr low ↦ absurd (let none : Some views ≡ None = sym is ∙ find_above s t.0 ts low r.0 in cc)
  ]

  found_nowhere : (q : ℕ) (ts : List (ℕ × FinMap nat_cmp V)) → Rises ts
      → ((s : ℕ) (views : FinMap nat_cmp V) → find nat_cmp s ts ≡ Some views → map.get views q ≡ None)
      → find nat_cmp q (entries_of ts) ≡ None
  found_nowhere q [] r none = refl
  found_nowhere q (t ∷ ts) r none =
      found_later q (map.entries t.1) (entries_of ts)
      (sym (map.get-entries t.1 q) ∙ none t.0 t.1 (find_at_key t.0 t ts refl))
      ∙ found_nowhere q ts r.1 (λ s views is. none s views (found_behind t ts s views r is).1)

  -- where only one list has q, it is looked up there
  found_in : (q s : ℕ) (ts : List (ℕ × FinMap nat_cmp V)) → Rises ts
      → ((k : ℕ) (views : FinMap nat_cmp V) → find nat_cmp k ts ≡ Some views → is_some (map.get views q) ≡ true → s ≡ k)
      → find nat_cmp q (entries_of ts) ≡ value_in (find nat_cmp s ts) q
  found_in q s [] r own = refl
  found_in q s (t ∷ ts) r own = elim (cases_eq s t.0) [
    | inl same ↦ elim (some_or_none (map.get t.1 q)) [
      | inl some ↦
          found_first q (map.entries t.1) (entries_of ts) some.0 (sym (map.get-entries t.1 q) ∙ some.1)
          ∙ sym (ap (λ o. value_in o q) (find_at_key s t ts same) ∙ some.1)
      | inr none ↦
          found_later q (map.entries t.1) (entries_of ts) (sym (map.get-entries t.1 q) ∙ none)
          ∙ found_nowhere q ts r.1 (nowhere_else same)
          ∙ sym (ap (λ o. value_in o q) (find_at_key s t ts same) ∙ none)
    ]
    | inr other ↦
        found_later q (map.entries t.1) (entries_of ts) (sym (map.get-entries t.1 q) ∙ not_first other)
        ∙ found_in q s ts r.1 (λ k views is some. own k views (found_behind t ts k views r is).1 some)
        ∙ ap (λ o. value_in o q) (sym (find_other s t ts other))
  ]
    where
      nowhere_else : s ≡ t.0 → (k : ℕ) (views : FinMap nat_cmp V) → find nat_cmp k ts ≡ Some views
          → map.get views q ≡ None
      nowhere_else same k views is = elim (some_or_none (map.get views q)) [
        | inl some ↦
            let behind = found_behind t ts k views r is in
            let here = own k views behind.1 (ap is_some some.1) in
            absurd (omega (arith, behind.0, here, same))
        | inr none ↦ none
      ]

      not_first : (s ≡ t.0 → ⊥) → map.get t.1 q ≡ None
      not_first other = elim (some_or_none (map.get t.1 q)) [
        | inl some ↦ absurd (other (own t.0 t.1 (find_at_key t.0 t ts refl) (ap is_some some.1)))
        | inr none ↦ none
      ]

  -- a map that has a view isn't empty
  some_there : (m : FinMap nat_cmp V) (q : ℕ) → map.contains_key m q ≡ true → 0 < map.len m
  some_there m q there = elim (cases_lt 0 (map.len m)) [
    | inl some ↦ some
    | inr none ↦
        let empty = map.empty_of_len m (omega (arith, none)) in
        absurd (false≢true (sym (ap (λ n. map.contains_key n q) empty ∙ ap is_some (map.get-empty nat_cmp q)) ∙ there))
  ]

  kept_same : (b c : Bool) (x y : Option V) → c ≡ true → x ≡ y → cond b x None ≡ cond (b && c) y None
  kept_same true c x y keeps same = rw keeps same
  kept_same false c x y keeps same = refl

  kept_none : (b c : Bool) (x y : Option V) → c ≡ false → x ≡ None → cond b x None ≡ cond (b && c) y None
  kept_none true c x y drops none = rw drops none
  kept_none false c x y drops none = refl

  pub no_entries : map.entries (map.empty {X = V} {R = nat_cmp}) ≡ []
  no_entries = no_elements _ (sym (map.len-entries (map.empty {X = V} {R = nat_cmp})) ∙ map.len-empty nat_cmp V)

  kept_there : (b : Bool) (o : Option V) → is_some (cond b o None) ≡ true → is_some o ≡ true
  kept_there true o there = there
  kept_there false o there = absurd (false≢true there)

  value_kept : (b : Bool) (o : Option (FinMap nat_cmp V)) (q : ℕ)
      → value_in (cond b o None) q ≡ cond b (value_in o q) None
  value_kept true o q = refl
  value_kept false o q = refl

  -- ---- a map of one view

  pub only_entry : (v : ℕ) (x : V) → map.entries (map.insert (map.empty {R = nat_cmp}) v x) ≡ (v, x) ∷ []
  only_entry v x = map.entries-insert nat_cmp_total map.empty v x ∙ ap (map.put nat_cmp v x) no_entries

  pub one_len : (m : FinMap nat_cmp V) (v : ℕ) (x : V) → m ≡ map.insert map.empty v x → map.len m ≡ 1
  one_len m v x is = map.len-entries m ∙ ap length (ap map.entries is ∙ only_entry v x)

  pub one_value : (m : FinMap nat_cmp V) (v : ℕ) (x y : V) → m ≡ map.insert map.empty v x → map.values m ≡ y ∷ []
      → y ≡ x
  one_value m v x y is only = let same : y ∷ [] ≡ x ∷ [] = sym only
      ∙ ap (map_list (λ e. e.1)) (ap map.entries is ∙ only_entry v x) in ap (λ xs. get_or xs 0 x) same

  pub some_left : (m : FinMap nat_cmp V) → eqb (map.len m) 0 ≡ false → 0 < map.len m
  some_left m is = elim (cases_lt 0 (map.len m)) [
    | inl some ↦ some
    | inr none ↦ absurd (false≢true (sym is ∙ eq-eqb (map.len m) 0 (omega (arith, none))))
  ]

  pub none_left : (m : FinMap nat_cmp V) → eqb (map.len m) 0 ≡ true → map.len m ≡ 0
  none_left m is = eqb-true (map.len m) 0 is

  -- the map after an insert where nothing was
  pub put_new : (m n : FinMap nat_cmp V) (v : ℕ) (x : V) (back : Option V) → map.get m v ≡ None
      → back ≡ cond (map.contains_key m v) (Some x) None → n ≡ after_insert m v x (Ok back) → n ≡ map.insert m v x
  put_new m n v x back none stood after = after
      ∙ ap (λ b. after_insert m v x (Ok b)) (stood ∙ ap (λ o. cond (is_some o) (Some x) None) none)

  pub last_none : None ≡ last_entry (map.empty {X = V} {R = nat_cmp})
  last_none = sym (ap (λ es. slice_get es (length es - 1)) no_entries)

  none_kept : (b : Bool) (x : Option V) → x ≡ None → cond b x None ≡ None
  none_kept true x none = none
  none_kept false x none = refl

module _ {V : Type 0} (length : ℕ) (terms : FinMap nat_cmp (FinMap nat_cmp V)) (own : AreByTerm length terms) where
  pub of_term : (s : ℕ) (views : FinMap nat_cmp V) → map.get terms s ≡ Some views → IsOfTerm length s views
  of_term s views is = subst (λ o. IfSome o (IsOfTerm length s)) is (own s)

  -- a view is looked up in the list of its term
  pub get-joined : (q : ℕ) → map.get (joined terms) q ≡ value_in (map.get terms (term_start length q)) q
  get-joined q =
      map.get-from_entries nat_cmp_total (entries_of (map.entries terms)) q
      ∙ found_in q (term_start length q) (map.entries terms) (map_rises terms)
      (λ k views is some. (of_term k views (map.get-entries terms k ∙ is)).1 q some)
      ∙ ap (λ o. value_in o q) (sym (map.get-entries terms (term_start length q)))

  elsewhere : (s : ℕ) (views : FinMap nat_cmp V) → map.get terms s ≡ Some views → (q : ℕ)
      → (term_start length q ≡ s → ⊥) → map.get views q ≡ None
  elsewhere s views is q other = elim (some_or_none (map.get views q)) [
    | inl some ↦ absurd (other ((of_term s views is).1 q (ap is_some some.1)))
    | inr none ↦ none
  ]

  -- the value at a view, by the list of its term
  pub get_of : (q s : ℕ) (o : Option (FinMap nat_cmp V)) → term_start length q ≡ s → map.get terms s ≡ o
      → map.get (joined terms) q ≡ value_in o q
  get_of q s o same is = get-joined q ∙ ap (λ k. value_in (map.get terms k) q) same ∙ ap (λ t. value_in t q) is

  -- the entries of a term that pass a test are those of its list
  module _ (p r : ℕ → Bool) (v : ℕ)
      (split : (u : ℕ) → p u ≡ (r u && eqb (term_start length u) (term_start length v))) where
    pub part_of : (views : FinMap nat_cmp V) → map.get terms (term_start length v) ≡ Some views
        → map.retain_keys views r ≡ map.retain_keys (joined terms) p
    part_of views is = same_maps _ _ (λ q.
        get-kept views r q
        ∙ elim (cases_eq (term_start length q) (term_start length v)) [
          | inl same ↦ kept_same (r q) _ (map.get views q) (map.get (joined terms) q) (eq-eqb _ _ same)
              (sym (get_of q _ (Some views) same is))
          | inr other ↦ kept_none (r q) _ (map.get views q) (map.get (joined terms) q) (ne_eqb _ _ other)
              (elsewhere _ views is q other)
        ]
        ∙ ap (λ b. cond b (map.get (joined terms) q) None) (sym (split q))
        ∙ sym (get-kept (joined terms) p q))

    pub no_part : map.get terms (term_start length v) ≡ None → map.empty ≡ map.retain_keys (joined terms) p
    no_part is = same_maps _ _ (λ q.
        map.get-empty nat_cmp q
        ∙ sym (get-kept (joined terms) p q ∙ ap (λ b. cond b (map.get (joined terms) q) None) (split q)
        ∙ elim (cases_eq (term_start length q) (term_start length v)) [
          | inl same ↦ none_kept _ _ (get_of q _ None same is)
          | inr other ↦ sym (kept_none (r q) _ None (map.get (joined terms) q) (ne_eqb _ _ other) refl)
              ∙ none_kept (r q) None refl
        ]))

  pub kept_by_term : (p : ℕ → Bool) → AreByTerm length (map.retain_keys terms p)
  kept_by_term p s = subst (λ o. IfSome o (IsOfTerm length s)) (sym (get-kept terms p s)) (if_kept (p s))
    where
      if_kept : (b : Bool) → IfSome (cond b (map.get terms s) None) (IsOfTerm length s)
      if_kept true = own s
      if_kept false = tt

  pub set_by_term : (s : ℕ) (views : FinMap nat_cmp V) → IsOfTerm length s views
      → AreByTerm length (map.insert terms s views)
  set_by_term s views of k = subst (λ o. IfSome o (IsOfTerm length k)) (sym (get-insert terms s views k))
      (elim (cases_eq k s) [
        | inl same ↦ rw (eq-eqb k s same, same) of
        | inr other ↦ rw (ne_eqb k s other) (own k)
      ])

  -- a list that is put back changes nothing
  pub set_same : (s : ℕ) (views : FinMap nat_cmp V) → map.get terms s ≡ Some views → map.insert terms s views ≡ terms
  set_same s views is = same_maps _ _ (λ k. get-insert terms s views k ∙ elim (cases_eq k s) [
    | inl same ↦ rw (eq-eqb k s same, same) (sym is)
    | inr other ↦ rw (ne_eqb k s other) refl
  ])

pub none_by_term : (V : Type 0) (views : ℕ) → AreByTerm {V = V} views map.empty
none_by_term V views s = subst (λ o. IfSome o (IsOfTerm {V = V} views s)) (sym (map.get-empty nat_cmp s)) tt

pub none_joined : {V : Type 0} → joined (map.empty {X = FinMap nat_cmp V} {R = nat_cmp}) ≡ map.empty
none_joined {V} = ap (λ ts. map.from_entries (entries_of {V = V} ts)) no_entries

-- a view that is put into the list of its term
module _ {V : Type 0} (length : ℕ) (terms : FinMap nat_cmp (FinMap nat_cmp V)) (own : AreByTerm length terms) (v : ℕ)
    (x : V) (views : FinMap nat_cmp V) (alike : (q : ℕ) → term_start length q ≡ term_start length v
    → map.get views q ≡ map.get (joined terms) q)
    (of : (q : ℕ) → map.contains_key views q ≡ true → term_start length q ≡ term_start length v) where
  put_of_term : IsOfTerm length (term_start length v) (map.insert views v x)
  put_of_term = (
    some_there (map.insert views v x) v (ap is_some (get-insert views v x v) ∙ rw (eq-eqb v v refl) refl),
    λ q there. elim (cases_eq q v) [
      | inl same ↦ ap (term_start length) same
      | inr other ↦ of q (sym (ap is_some (get-insert views v x q ∙ rw (ne_eqb q v other) refl)) ∙ there)
    ],
  )

  pub put_by_term : AreByTerm length (map.insert terms (term_start length v) (map.insert views v x))
  put_by_term = set_by_term length terms own (term_start length v) (map.insert views v x) put_of_term

  pub put_joined : joined (map.insert terms (term_start length v) (map.insert views v x)) ≡ map.insert (joined terms) v
      x
  put_joined = same_maps _ _ (λ q.
      get-joined length _ put_by_term q
      ∙ ap (λ o. value_in o q) (get-insert terms (term_start length v) (map.insert views v x) (term_start length q))
      ∙ elim (cases_eq (term_start length q) (term_start length v)) [
        | inl same ↦ rw (eq-eqb _ _ same) (get-insert views v x q ∙ ap (cond (eqb q v) (Some x)) (alike q same))
        | inr other ↦ rw (ne_eqb _ _ other, ne_eqb q v (λ same. other (ap (term_start length) same)))
            (sym (get-joined length terms own q))
      ]
      ∙ sym (get-insert (joined terms) v x q))

-- what is in the list of a view's term is at the view
module _ {V : Type 0} (length : ℕ) (terms : FinMap nat_cmp (FinMap nat_cmp V)) (own : AreByTerm length terms)
    (v : ℕ) where
  module _ (x : V) (views : FinMap nat_cmp V) (is : map.get terms (term_start length v) ≡ Some views) where
    -- a term that has a list gets that list after an insert
    pub standing_by_term : (r : Result (Option V) (AllocFailed V))
        → AreByTerm length (map.insert terms (term_start length v) (after_insert views v x r))
    standing_by_term (Ok None) = put_by_term length terms own v x views
        (λ q same. sym (get_of length terms own q _ (Some views) same is)) (of_term length terms own _ views is).1
    standing_by_term (Ok (Some back)) = subst (AreByTerm length) (sym (set_same length terms own _ views is)) own
    standing_by_term (Err refused) = subst (AreByTerm length) (sym (set_same length terms own _ views is)) own

    pub standing_joined : (r : Result (Option V) (AllocFailed V))
        → joined (map.insert terms (term_start length v) (after_insert views v x r)) ≡ after_insert (joined terms) v x r
    standing_joined (Ok None) = put_joined length terms own v x views
        (λ q same. sym (get_of length terms own q _ (Some views) same is)) (of_term length terms own _ views is).1
    standing_joined (Ok (Some back)) = ap joined (set_same length terms own _ views is)
    standing_joined (Err refused) = ap joined (set_same length terms own _ views is)

  -- a term that has none is given a list of one view
  module _ (x : V) (is : map.get terms (term_start length v) ≡ None) where
    no_views : (q : ℕ) → term_start length q ≡ term_start length v
        → map.get (map.empty {X = V} {R = nat_cmp}) q ≡ map.get (joined terms) q
    no_views q same = map.get-empty nat_cmp q ∙ sym (get_of length terms own q _ None same is)

    no_view : (q : ℕ) → map.contains_key (map.empty {X = V} {R = nat_cmp}) q ≡ true
        → term_start length q ≡ term_start length v
    no_view q there = absurd (false≢true (sym (ap is_some (map.get-empty nat_cmp q)) ∙ there))

    pub new_by_term : AreByTerm length (map.insert terms (term_start length v) (map.insert map.empty v x))
    new_by_term = put_by_term length terms own v x map.empty no_views no_view

    pub new_joined : joined (map.insert terms (term_start length v) (map.insert map.empty v x)) ≡ map.insert
        (joined terms) v x
    new_joined = put_joined length terms own v x map.empty no_views no_view

-- ---- the terms from a view's own on

module _ {V : Type 0} (length : ℕ) (terms : FinMap nat_cmp (FinMap nat_cmp V)) (own : AreByTerm length terms)
    (v : ℕ) where
  abbrev from_own : FinMap nat_cmp (FinMap nat_cmp V)
  from_own = at_or_above terms (term_start length v)

  -- if the other terms stay as they are, and the view's own is cut, what remains is at or above the view
  lowered : (left : FinMap nat_cmp (FinMap nat_cmp V)) → AreByTerm length left
      → ((k : ℕ) → (k ≡ term_start length v → ⊥) → map.get left k ≡ map.get from_own k)
      → ((q : ℕ) → term_start length q ≡ term_start length v
      → value_in (map.get left (term_start length v)) q ≡ cond (leb v q) (map.get (joined terms) q) None)
      → joined left ≡ at_or_above (joined terms) v
  lowered left own_left others cut = same_maps _ _ (λ q.
      get-joined length left own_left q
      ∙ elim (cases_eq (term_start length q) (term_start length v)) [
        | inl same ↦ ap (λ k. value_in (map.get left k) q) same ∙ cut q same
        | inr other ↦ ap (λ o. value_in o q) (others _ other
            ∙ get-kept terms (λ k. leb (term_start length v) k) (term_start length q)) ∙ elsewhere_cut q other
      ]
      ∙ sym (get-kept (joined terms) (λ k. leb v k) q))
    where
      elsewhere_cut : (q : ℕ) → (term_start length q ≡ term_start length v → ⊥)
          → value_in (cond (leb (term_start length v) (term_start length q)) (map.get terms (term_start length q)) None)
          q ≡ cond (leb v q) (map.get (joined terms) q) None
      elsewhere_cut q other = elim (cases_lt v q) [
        | inl above ↦ rw (
          le-leb _ _ (start_monotone length v q (omega (arith, above))),
          le-leb v q (omega (arith, above)),
        ) (sym (get-joined length terms own q))
        | inr low ↦
            let up = start_monotone length q v low in
            let below_start : term_start length q < term_start length v =
            elim (cases_lt (term_start length q) (term_start length v))
            [ inl less ↦ less | inr more ↦ absurd (other (omega (arith, up, more))) ] in
            let below : q < v = elim (cases_lt q v) [
              | inl less ↦ less
              | inr more ↦ absurd
                  (other (ap (term_start length) (let at : q ≡ v = omega (arith, low, more) in at)))
            ] in
            rw (lt-leb _ _ below_start, lt-leb v q below) refl
      ]

  get_own : map.get from_own (term_start length v) ≡ map.get terms (term_start length v)
  get_own = get-kept terms (λ k. leb (term_start length v) k) (term_start length v)
      ∙ rw (le-leb (term_start length v) (term_start length v) (omega arith)) refl

  pub own_by_term : AreByTerm length from_own
  own_by_term = kept_by_term length terms own (λ k. leb (term_start length v) k)

  pub none_lowered : map.get from_own (term_start length v) ≡ None → joined from_own ≡ at_or_above (joined terms) v
  none_lowered is = lowered from_own own_by_term (λ k other. refl) (λ q same.
      ap (λ o. value_in o q) is
      ∙ sym (none_kept (leb v q) _ (get_of length terms own q _ None same (sym get_own ∙ is))))

  module _ (views : FinMap nat_cmp V) (is : map.get from_own (term_start length v) ≡ Some views) where
    get_cut : (q : ℕ) → term_start length q ≡ term_start length v
        → map.get (at_or_above views v) q ≡ cond (leb v q) (map.get (joined terms) q) None
    get_cut q same = get-kept views (λ k. leb v k) q
        ∙ ap (λ o. cond (leb v q) o None) (sym (get_of length terms own q _ (Some views) same (sym get_own ∙ is)))

    -- the view's own term, where some of its views are left
    abbrev cut_own : FinMap nat_cmp (FinMap nat_cmp V)
    cut_own = map.insert from_own (term_start length v) (at_or_above views v)

    pub some_by_term : 0 < map.len (at_or_above views v) → AreByTerm length cut_own
    some_by_term some = set_by_term length from_own own_by_term _ (at_or_above views v) (
      some,
      λ q there.
          (of_term length from_own own_by_term _ views is).1 q
          (kept_there (leb v q) (map.get views q) (sym (ap is_some (get-kept views (λ k. leb v k) q)) ∙ there)),
    )

    pub some_lowered : 0 < map.len (at_or_above views v) → joined cut_own ≡ at_or_above (joined terms) v
    some_lowered some = lowered cut_own (some_by_term some)
        (λ k other. get-insert from_own _ (at_or_above views v) k ∙ rw (ne_eqb k _ other) refl) (λ q same.
        ap (λ o. value_in o q) get_cut_own ∙ get_cut q same)
      where
        get_cut_own : map.get cut_own (term_start length v) ≡ Some (at_or_above views v)
        get_cut_own = get-insert from_own _ (at_or_above views v) _ ∙ rw (eq-eqb (term_start length v) _ refl) refl

    -- and where none are
    abbrev without_own : FinMap nat_cmp (FinMap nat_cmp V)
    without_own = map.remove cut_own (term_start length v)

    get_without : (k : ℕ) → map.get without_own k ≡ cond (eqb k (term_start length v)) None (map.get from_own k)
    get_without k = map.get-remove nat_cmp_total cut_own _ k
        ∙ ap (λ b. cond b None (map.get cut_own k)) (is_eq-nat_cmp k _) ∙ elim (cases_eq k (term_start length v)) [
          | inl same ↦ rw (eq-eqb k _ same) refl
          | inr other ↦
              rw (ne_eqb k _ other) (get-insert from_own _ (at_or_above views v) k ∙ rw (ne_eqb k _ other) refl)
        ]

    pub without_by_term : AreByTerm length without_own
    without_by_term k = subst (λ o. IfSome o (IsOfTerm length k)) (sym (get_without k))
        (if_other (eqb k (term_start length v)))
      where
        if_other : (b : Bool) → IfSome (cond b None (map.get from_own k)) (IsOfTerm length k)
        if_other true = tt
        if_other false = own_by_term k

    pub without_lowered : map.len (at_or_above views v) ≡ 0 → joined without_own ≡ at_or_above (joined terms) v
    without_lowered none = lowered without_own without_by_term (λ k other. get_without k ∙ rw (ne_eqb k _ other) refl)
        (λ q same.
        ap (λ o. value_in o q) get_own_without
        ∙ sym (ap (λ m. map.get m q) (map.empty_of_len (at_or_above views v) none) ∙ map.get-empty nat_cmp q)
        ∙ get_cut q same)
      where
        get_own_without : map.get without_own (term_start length v) ≡ None
        get_own_without = get_without (term_start length v) ∙ rw (eq-eqb (term_start length v) _ refl) refl

-- ---- terms that have ended

start_start : (length q : ℕ) → 0 < length → term_start length (term_start length q) ≡ term_start length q
start_start length q some =
    let whole : term_start length q - 1 ≡ (q - 1) / length * length + 0 = omega arith in
    ap (λ n. n * length + 1) (ap (λ n. n / length) whole ∙ div-mul-add ((q - 1) / length) length 0 some)

module _ {V : Type 0} (length : ℕ) (terms : FinMap nat_cmp (FinMap nat_cmp V)) (own : AreByTerm length terms) (v : ℕ)
    (some : 0 < length) (later : length ≤ v) where
  pub open_by_term : AreByTerm length (at_or_above terms (term_start length (v + 1)))
  open_by_term = kept_by_term length terms own (λ k. leb (term_start length (v + 1)) k)

  pub open_joined : joined (at_or_above terms (term_start length (v + 1))) ≡ not_ended
      (record { term_length = length; by_view = joined terms }) v
  open_joined = same_maps _ _ (λ q.
      get-joined length _ open_by_term q
      ∙ ap (λ o. value_in o q) (get-kept terms (λ k. leb (term_start length (v + 1)) k) (term_start length q))
      ∙ value_kept (leb (term_start length (v + 1)) (term_start length q)) (map.get terms (term_start length q)) q
      ∙ ap (λ b. cond b (value_in (map.get terms (term_start length q)) q) None) (is_open q)
      ∙ ap (λ o. cond (ltb v (term_end length q)) o None) (sym (get-joined length terms own q))
      ∙ sym (get-kept (joined terms) (λ k. ltb v (term_end length k)) q))
    where
      is_open : (q : ℕ) → leb (term_start length (v + 1)) (term_start length q) ≡ ltb v (term_end length q)
      is_open q = sym (ends_above length v (term_start length q) some later)
          ∙ ap (λ s. ltb v (s + length - 1)) (start_start length q some)
