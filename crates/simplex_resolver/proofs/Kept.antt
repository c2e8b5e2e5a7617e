-- The stored encodings after each call, and where they come from.
use Rattle.std.proofs.Common.{◌≡◌, ℕ, ◌+◌, ◌<◌, ◌≤◌, Bool, true, false, ◌&&◌, ◌||◌, not, ◌==◌, nat_lt, nat_le, cond, List, Option, None, Some, is_some, ◌⊎◌, inl, inr, max, min, refl, sym, ◌∙◌, ap, arith}
use Rattle.std.specs.Ordering.{nat_cmp}
use Rattle.std.specs.Option.{option_and_then, unwrap_or}
use Rattle.std.specs.FinMap as finmap
use Rattle.std.specs.FinMap.{FinMap}
use Rattle.std.proofs.lemmas.Bool.Decides.{nat_tests}
use Rattle.std.proofs.lemmas.Bool.{cases_eq, eq-eqb, ne_eqb, false≢true}
use Rattle.simplex_types.specs.Terms.{term_end}
use Rattle.simplex_view_maps.specs.Tracked.{at_or_above}
use Rattle.simplex_view_maps.proofs.Maps.{get-insert, get-kept}
use Rattle.simplex_resolver.specs.Facts.{ResolverFacts, term_length, last_finalized, certified_encoding, starts_term}
use Rattle.simplex_resolver.specs.Steps.{Call, Nullification, Notarization, Finalization, Verdict, Replayed, insert_new, with_stored_nullification, with_stored_finalization, without_finalized, before_scan}
use Rattle.simplex_resolver.specs.ReceivedFacts.{is_true_verdict, is_false_verdict}
use Rattle.simplex_resolver.proofs.Maps.{contains-insert, contains-insert_new, contains-kept}
use Rattle.simplex_resolver.proofs.Changes.{last-put}

-- a nullification of this very view
abbrev pub is_nullification : ℕ → Call → Bool
is_nullification v (Nullification u encoding) = v == u
is_nullification v call = false

-- a certified notarization is stored at v
abbrev pub is_certified : FinMap nat_cmp (Option (List ℕ)) → ℕ → Bool
is_certified m v = is_some (certified_encoding m v)

-- each entry is above a view
abbrev pub IsAbove : {V : Type 0} → ℕ → FinMap nat_cmp V → Type 0
IsAbove f m = (v : ℕ) → finmap.contains_key m v ≡ true → f < v

-- ---- maps

module _ {V : Type 0} where
  from_insert : (m : FinMap nat_cmp V) (u : ℕ) (x : V) (v : ℕ) (e : V) → finmap.get (finmap.insert m u x) v ≡ Some e
      → (finmap.get m v ≡ Some e) ⊎ ((v ≡ u) × (x ≡ e))
  from_insert m u x v e is = elim (cases_eq v u) [
    | inl same ↦ inr (
      same,
      let here : Some x ≡ Some e =
          sym (get-insert m u x v ∙ ap (λ b. cond b (Some x) (finmap.get m v)) (eq-eqb v u same)) ∙ is in cc,
    )
    | inr other ↦ inl (sym (get-insert m u x v ∙ ap (λ b. cond b (Some x) (finmap.get m v)) (ne_eqb v u other)) ∙ is)
  ]

  from_new : (b : Bool) (m : FinMap nat_cmp V) (u : ℕ) (x : V) (v : ℕ) (e : V)
      → finmap.get (cond b m (finmap.insert m u x)) v ≡ Some e → (finmap.get m v ≡ Some e) ⊎ ((v ≡ u) × (x ≡ e))
  from_new true m u x v e is = inl is
  from_new false m u x v e is = from_insert m u x v e is

  from_insert_new : (m : FinMap nat_cmp V) (u : ℕ) (x : V) (v : ℕ) (e : V) → finmap.get (insert_new m u x) v ≡ Some e
      → (finmap.get m v ≡ Some e) ⊎ ((v ≡ u) × (x ≡ e))
  from_insert_new m u x v e is = from_new (finmap.contains_key m u) m u x v e is

  from_cond : (b : Bool) (o : Option V) (e : V) → cond b o None ≡ Some e → o ≡ Some e
  from_cond true o e is = is
  from_cond false o e is = absurd (let none : None ≡ Some e = is in cc)

  from_kept : (m : FinMap nat_cmp V) (p : ℕ → Bool) (v : ℕ) (e : V) → finmap.get (finmap.retain_keys m p) v ≡ Some e
      → finmap.get m v ≡ Some e
  from_kept m p v e is = from_cond (p v) (finmap.get m v) e (sym (get-kept m p v) ∙ is)

  above_kept : (m : FinMap nat_cmp V) (f : ℕ) → IsAbove f (at_or_above m (f + 1))
  above_kept m f v there = let kept = contains-kept m (λ u. nat_le (f + 1) u) v in grind (arith, nat_tests, kept, there)

  above_put : (f u : ℕ) (m : FinMap nat_cmp V) (n : FinMap nat_cmp V) → f < u
      → ((v : ℕ) → finmap.contains_key n v ≡ (v == u || finmap.contains_key m v)) → IsAbove f m → IsAbove f n
  above_put f u m n high put above v there = let is = put v in let old = above v in elim (cases_eq v u) [
    | inl same ↦ omega (arith, same, high)
    | inr other ↦ old (grind (arith, nat_tests, is, there, other))
  ]

certified-insert : (m : FinMap nat_cmp (Option (List ℕ))) (u : ℕ) (x : Option (List ℕ)) (v : ℕ)
    → is_certified (finmap.insert m u x) v ≡ cond (v == u) (is_some x) (is_certified m v)
certified-insert m u x v = ap (λ o. is_some (option_and_then (λ e. e) o)) (get-insert m u x v) ∙ pick (v == u)
  where
    pick : (b : Bool) → is_some (option_and_then (λ e. e) (cond b (Some x) (finmap.get m v))) ≡ cond b (is_some x)
        (is_certified m v)
    pick true = refl
    pick false = refl

-- where no notarization is noted, none is certified
unnoted : (m : FinMap nat_cmp (Option (List ℕ))) (v : ℕ) → finmap.contains_key m v ≡ false → is_certified m v ≡ false
unnoted m v none = lost (finmap.get m v) none
  where
    lost : (o : Option (Option (List ℕ))) → is_some o ≡ false → is_some (option_and_then (λ e. e) o) ≡ false
    lost None is = refl
    lost (Some e) is = absurd (false≢true (sym is))

certified_new : (b : Bool) (m : FinMap nat_cmp (Option (List ℕ))) (u v : ℕ) → finmap.contains_key m u ≡ b
    → is_certified (cond b m (finmap.insert m u None)) v ≡ is_certified m v
certified_new true m u v is = refl
certified_new false m u v is = certified-insert m u None v ∙ (elim (cases_eq v u) [
  | inl same ↦ ap (λ b. cond b false (is_certified m v)) (eq-eqb v u same)
      ∙ sym (ap (is_certified m) same ∙ unnoted m u is)
  | inr other ↦ ap (λ b. cond b false (is_certified m v)) (ne_eqb v u other)
])

certified-insert_new : (m : FinMap nat_cmp (Option (List ℕ))) (u v : ℕ)
    → is_certified (insert_new m u None) v ≡ is_certified m v
certified-insert_new m u v = certified_new (finmap.contains_key m u) m u v refl

certified-at_or_above : (m : FinMap nat_cmp (Option (List ℕ))) (f v : ℕ) → f < v
    → is_certified (at_or_above m (f + 1)) v ≡ is_certified m v
certified-at_or_above m f v h =
    ap (λ o. is_some (option_and_then (λ e. e) o))
    (get-kept m (λ u. nat_le (f + 1) u) v ∙ ap (λ b. cond b (finmap.get m v) None)
    (let high : nat_le (f + 1) v ≡ true = grind (arith, nat_tests) in high))

-- ---- calls

-- from x to y by the call c
pub record Kept (x : ResolverFacts) (c : Call) (y : ResolverFacts) : Type 0 where
  pub final : (f : ℕ) (e : List ℕ) → y.finalization ≡ Some (f, e)
      → (x.finalization ≡ Some (f, e)) ⊎ (Finalization f e ≡ c)
  pub nullified : (u : ℕ) (e : List ℕ) → finmap.get y.nullifications.by_view u ≡ Some e
      → (finmap.get x.nullifications.by_view u ≡ Some e) ⊎ (Nullification u e ≡ c)
  pub held : (u : ℕ) → last_finalized y < term_end (term_length x) u
      → finmap.contains_key y.nullifications.by_view
      u ≡ (is_nullification u c || finmap.contains_key x.nullifications.by_view u)
  pub notarized : (v : ℕ) (e : List ℕ) → finmap.get y.notarizations v ≡ Some (Some e)
      → (finmap.get x.notarizations v ≡ Some (Some e)) ⊎ (Verdict v e true ≡ c)
  pub certified : (v : ℕ) → last_finalized y < v
      → is_certified y.notarizations
      v ≡ (is_true_verdict v c || (not (is_false_verdict v c) && is_certified x.notarizations v))
  pub above : IsAbove (last_finalized x) x.notarizations → IsAbove (last_finalized y) y.notarizations
  pub above_failed : IsAbove (last_finalized x) x.uncertifiable → IsAbove (last_finalized y) y.uncertifiable

high_enough : (f u : ℕ) → true ≡ nat_lt f u → f < u
high_enough f u is = grind (arith, nat_tests, is)

-- a value that is not added, since it is too low, is not searched for
too_low : (f u v end_u end_v : ℕ) (there : Bool) → false ≡ nat_lt f end_u → f < end_v → (v ≡ u → end_v ≡ end_u)
    → there ≡ (v == u || there)
too_low f u v end_u end_v there is high same = elim (cases_eq v u) [
  | inl at ↦ absurd
      (let ends = same at in let low : end_u ≤ f = grind (arith, nat_tests, is) in omega (arith, ends, low, high))
  | inr other ↦ ap (λ b. b || there) (sym (ne_eqb v u other))
]

kept_nullification : (kept : Bool) (x : ResolverFacts) (u : ℕ) (b : List ℕ)
    → kept ≡ nat_lt (last_finalized x) (term_end (term_length x) u)
    → Kept x (Nullification u b) (cond kept (record (with_stored_nullification x u b) { current = max x.current u })
    (record x { current = max x.current u }))
kept_nullification true x u b is = record {
  final = λ f e at. inl at;
  nullified = λ v e at. elim (from_insert_new x.nullifications.by_view u b v e at) [
    | inl old ↦ inl old
    | inr new ↦ inr (let here = new.0 in let bytes = new.1 in cc)
  ];
  held = λ v high. contains-insert_new x.nullifications.by_view u b v;
  notarized = λ v e at. inl at;
  certified = λ v high. refl;
  above = λ before. before;
  above_failed = λ before. before;
}
kept_nullification false x u b is = record {
  final = λ f e at. inl at;
  nullified = λ v e at. inl at;
  held = λ v high. too_low (last_finalized x) u v (term_end (term_length x) u) (term_end (term_length x) v)
      (finmap.contains_key x.nullifications.by_view v) is high (ap (term_end (term_length x)));
  notarized = λ v e at. inl at;
  certified = λ v high. refl;
  above = λ before. before;
  above_failed = λ before. before;
}

kept_notarization : (high : Bool) (x : ResolverFacts) (u : ℕ) → high ≡ nat_lt (last_finalized x) u
    → Kept x (Notarization u) (cond high (record x
    { current = max x.current u; notarizations = insert_new x.notarizations u None })
    (record x { current = max x.current u }))
kept_notarization true x u is = record {
  final = λ f e at. inl at;
  nullified = λ v e at. inl at;
  held = λ v high. refl;
  notarized = λ v e at. elim (from_insert_new x.notarizations u None v (Some e) at) [
    | inl old ↦ inl old
    | inr new ↦ absurd (let none : None ≡ Some e = new.1 in cc)
  ];
  certified = λ v high. certified-insert_new x.notarizations u v;
  above = λ before. above_put (last_finalized x) u x.notarizations (insert_new x.notarizations u None)
      (high_enough (last_finalized x) u is) (contains-insert_new x.notarizations u None) before;
  above_failed = λ before. before;
}
kept_notarization false x u is = record {
  final = λ f e at. inl at;
  nullified = λ v e at. inl at;
  held = λ v high. refl;
  notarized = λ v e at. inl at;
  certified = λ v high. refl;
  above = λ before. before;
  above_failed = λ before. before;
}

-- a raise of the floor changes none of this
kept_raise : (rises : Bool) (x : ResolverFacts) (c : Call) (y : ResolverFacts) (u n : ℕ) → Kept x c y
    → Kept x c (cond rises (record y { floor = u; scanned = n }) y)
kept_raise true x c y u n k = record {
  final = k.final;
  nullified = k.nullified;
  held = k.held;
  notarized = k.notarized;
  certified = k.certified;
  above = k.above;
  above_failed = k.above_failed;
}
kept_raise false x c y u n k = k

final-put : (new : Bool) (old : Option (ℕ × List ℕ)) (u : ℕ) (b : List ℕ) (f : ℕ) (e : List ℕ)
    → cond new (Some (u, b)) old ≡ Some (f, e) → (old ≡ Some (f, e)) ⊎ (Finalization f e ≡ Finalization u b)
final-put true old u b f e is = inr (let at : (u, b) ≡ (f, e) = ap (λ o. unwrap_or o (u, b)) is in
    sym (ap (λ (p : ℕ × List ℕ). Finalization p.0 p.1) at))
final-put false old u b f e is = inl is

kept_finalization : (x : ResolverFacts) (u : ℕ) (b : List ℕ)
    → Kept x (Finalization u b) (without_finalized (with_stored_finalization x u b) (max (last_finalized x) u))
kept_finalization x u b =
    let last = last-put (nat_lt (last_finalized x) u) x u b refl in
    let finalized = max (last_finalized x) u in record {
      final = λ f e at. final-put (nat_lt (last_finalized x) u) x.finalization u b f e at;
      nullified = λ v e at.
          inl (from_kept x.nullifications.by_view (λ w. nat_lt finalized (term_end (term_length x) w)) v e at);
      held = λ v high. contains-kept x.nullifications.by_view (λ w. nat_lt finalized (term_end (term_length x) w)) v
          ∙ ap (λ b. b && finmap.contains_key x.nullifications.by_view v)
          (ends_above (term_end (term_length x) v) (last_finalized x) u last high);
      notarized = λ v e at. inl (from_kept x.notarizations (λ w. nat_le (finalized + 1) w) v (Some e) at);
      certified = λ v high. certified-at_or_above x.notarizations finalized v (omega (arith, last, high));
      above = λ before v there. let high = above_kept x.notarizations finalized v there in omega (arith, last, high);
      above_failed = λ before v there. let high = above_kept x.uncertifiable finalized v there in
          omega (arith, last, high);
    }
  where
    ends_above : (end last u : ℕ) {new : ℕ} → new ≡ max u last → new < end → nat_lt (max last u) end ≡ true
    ends_above end last u is high = grind (arith, nat_tests, is, high)

kept_success : (high : Bool) (x : ResolverFacts) (u : ℕ) (b : List ℕ) → high ≡ nat_lt (last_finalized x) u
    → Kept x (Verdict u b true) (cond high (record x { notarizations = finmap.insert x.notarizations u (Some b) }) x)
kept_success true x u b is = record {
  final = λ f e at. inl at;
  nullified = λ v e at. inl at;
  held = λ v high. refl;
  notarized = λ v e at. elim (from_insert x.notarizations u (Some b) v (Some e) at) [
    | inl old ↦ inl old
    | inr new ↦ inr (let here = new.0 in let bytes : Some b ≡ Some e = new.1 in cc)
  ];
  certified = λ v high. certified-insert x.notarizations u (Some b) v
      ∙ either (v == u) (is_certified x.notarizations v);
  above = λ before. above_put (last_finalized x) u x.notarizations _ (high_enough (last_finalized x) u is)
      (contains-insert x.notarizations u (Some b)) before;
  above_failed = λ before. before;
}
  where
    either : (b c : Bool) → cond b true c ≡ (b || c)
    either true c = refl
    either false c = refl
kept_success false x u b is = record {
  final = λ f e at. inl at;
  nullified = λ v e at. inl at;
  held = λ v high. refl;
  notarized = λ v e at. inl at;
  certified = λ v high. too_low (last_finalized x) u v u v (is_certified x.notarizations v) is high (λ at. at);
  above = λ before. before;
  above_failed = λ before. before;
}

kept_failure : (high : Bool) (x : ResolverFacts) (u : ℕ) (b : List ℕ) → high ≡ nat_lt (last_finalized x) u
    → Kept x (Verdict u b false) (cond high (record x
    { notarizations = finmap.insert x.notarizations u None; uncertifiable = insert_new x.uncertifiable u tt }) x)
kept_failure true x u b is = record {
  final = λ f e at. inl at;
  nullified = λ v e at. inl at;
  held = λ v high. refl;
  notarized = λ v e at. elim (from_insert x.notarizations u None v (Some e) at) [
    | inl old ↦ inl old
    | inr new ↦ absurd (let none : None ≡ Some e = new.1 in cc)
  ];
  certified = λ v high. certified-insert x.notarizations u None v ∙ lost (v == u) (is_certified x.notarizations v);
  above = λ before. above_put (last_finalized x) u x.notarizations _ (high_enough (last_finalized x) u is)
      (contains-insert x.notarizations u None) before;
  above_failed = λ before. above_put (last_finalized x) u x.uncertifiable _ (high_enough (last_finalized x) u is)
      (contains-insert_new x.uncertifiable u tt) before;
}
  where
    lost : (b c : Bool) → cond b false c ≡ (not b && c)
    lost true c = refl
    lost false c = refl
kept_failure false x u b is = record {
  final = λ f e at. inl at;
  nullified = λ v e at. inl at;
  held = λ v high. refl;
  notarized = λ v e at. inl at;
  certified = λ v high. unjudged v high;
  above = λ before. before;
  above_failed = λ before. before;
}
  where
    unjudged : (v : ℕ) → last_finalized x < v
        → is_certified x.notarizations v ≡ (not (v == u) && is_certified x.notarizations v)
    unjudged v high = let low = is in elim (cases_eq v u) [
      | inl at ↦
          absurd (let least : u ≤ last_finalized x = grind (arith, nat_tests, low) in omega (arith, at, least, high))
      | inr other ↦ ap (λ b. not b && is_certified x.notarizations v) (sym (ne_eqb v u other))
    ]

-- every call
pub kept : (x : ResolverFacts) (c : Call) → Kept x c (before_scan x c)
kept x (Nullification u b) = kept_nullification (nat_lt (last_finalized x) (term_end (term_length x) u)) x u b refl
kept x (Notarization u) = kept_notarization (nat_lt (last_finalized x) u) x u refl
kept x (Finalization u b) =
    let y = without_finalized (with_stored_finalization x u b) (max (last_finalized x) u) in
    kept_raise (nat_lt y.floor u) x (Finalization u b) y u
    (cond (starts_term (term_length y) (u + 1)) y.scanned (min y.scanned (u + 1))) (kept_finalization x u b)
kept x (Verdict u b true) =
    let y = cond (nat_lt (last_finalized x) u) (record x { notarizations = finmap.insert x.notarizations u (Some b) }) x
    in
    kept_raise (nat_lt y.floor u) x (Verdict u b true) y u
    (cond (starts_term (term_length y) (u + 1)) y.scanned (min y.scanned (u + 1)))
    (kept_success (nat_lt (last_finalized x) u) x u b refl)
kept x (Verdict u b false) = kept_failure (nat_lt (last_finalized x) u) x u b refl
kept x Replayed = record {
  final = λ f e at. inl at;
  nullified = λ v e at. inl at;
  held = λ v high. refl;
  notarized = λ v e at. inl at;
  certified = λ v high. refl;
  above = λ before. before;
  above_failed = λ before. before;
}
