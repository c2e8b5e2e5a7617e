-- A search for a view that was certified false, over those that may have been.
use Rattle.std.proofs.Common.{◌≡◌, ℕ, ◌+◌, ◌<◌, Bool, true, false, cond, ◌&&◌, ltb, leb, List, [], ◌∷◌, Option, Some, None, is_some, refl, ap, sym, ◌∙◌, inl, inr, arith}
use Rattle.std.specs.Prelude.{max}
use Rattle.std.specs.Option.{option_map_or}
use Rattle.std.specs.List.{list_any}
use Rattle.std.specs.Ordering.{nat_cmp}
use Rattle.std.specs.FinMap as map
use Rattle.std.specs.FinMap.Entries.{find}
use Rattle.std.proofs.lemmas.Bool.{and_parts, cases_lt, cases_eq, lt-ltb, le-ltb, ltb-true, lt-leb, le-leb, leb-true, eq-eqb, ne_eqb, false≢true}
use Rattle.simplex_view_maps.proofs.RisingEntries.{Rises, find_above}
use Rattle.simplex_view_maps.proofs.Maps.{is_eq-nat_cmp, map_rises, get-kept}
use Rattle.simplex_view_maps.proofs.Gaps.{cases_bool, or_any}
use Rattle.simplex_view_maps.specs.Tracked.{below, at_or_above}
use Rattle.simplex_round.specs.Round.{RoundFacts, is_judged}
use Rattle.simplex_voter.specs.declared.voter.rounds.Bounds.{Bounds}
use Rattle.simplex_voter.specs.Rounds.{RoundsFacts, AreKept, is_refused_above, is_refused_between}
use Rattle.simplex_voter.proofs.Changed.{some_is}

module _ {V : Type 0} where
  there_still : (e : ℕ × V) (es : List (ℕ × V)) → Rises (e ∷ es) → (v : ℕ) (r : V) → find nat_cmp v es ≡ Some r
      → find nat_cmp v (e ∷ es) ≡ Some r
  there_still e es rises v r found = elim (cases_eq v e.0) [
    | inl same ↦
        let none : None ≡ Some r = sym (find_above v e.0 es (omega (arith, same)) rises.0) ∙ found in
        absurd (false≢true (ap is_some none))
    | inr other ↦ rw (is_eq-nat_cmp v e.0, ne_eqb v e.0 other) found
  ]

  -- where a test passes on an entry, some entry passes, and where some entry passes, it is found
  pub any_there : (p : ℕ × V → Bool) (es : List (ℕ × V)) (v : ℕ) (r : V) → find nat_cmp v es ≡ Some r → p (v, r) ≡ true
      → list_any p es ≡ true
  any_there p [] v r found passes = let bad : None ≡ Some r = found in cc
  any_there p (e ∷ es) v r found passes = elim (cases_eq v e.0) [
    | inl same ↦
        let value : r ≡ e.1 = some_is r e.1 (sym found ∙ rw (is_eq-nat_cmp v e.0, eq-eqb v e.0 same) refl) in
        let here : p e ≡ true = rw (← same, ← value) passes in
        rw here refl
    | inr other ↦
        or_any (p e) _ (any_there p es v r (sym (rw (is_eq-nat_cmp v e.0, ne_eqb v e.0 other) refl) ∙ found) passes)
  ]

  pub any_where : (p : ℕ × V → Bool) (es : List (ℕ × V)) → Rises es → list_any p es ≡ true
      → (e : ℕ × V) × (find nat_cmp e.0 es ≡ Some e.1) × (p e ≡ true)
  any_where p [] rises h = absurd (false≢true h)
  any_where p (e ∷ es) rises h = elim (cases_bool (p e)) [
    | inl passes ↦ (e, rw (is_eq-nat_cmp e.0 e.0, eq-eqb e.0 e.0 refl) refl, passes)
    | inr fails ↦ let found = any_where p es rises.1 (rw fails at h) in
        (found.0, there_still e es rises found.0.0 found.0.1 found.1, found.2)
  ]

same_truth : (a b : Bool) → (a ≡ true → b ≡ true) → (b ≡ true → a ≡ true) → a ≡ b
same_truth true b to from = sym (to refl)
same_truth false true to from = absurd (false≢true (from refl))
same_truth false false to from = refl

all_true : (a b c d : Bool) → a ≡ true → b ≡ true → c ≡ true → d ≡ true → (a && b && c && d) ≡ true
all_true a b c d is_a is_b is_c is_d = rw (is_a, is_b, is_c, is_d) refl

four_parts : (a b c d : Bool) → (a && b && c && d) ≡ true → (a ≡ true) × (b ≡ true) × (c ≡ true) × (d ≡ true)
four_parts true true true true is = (refl, refl, refl, refl)
four_parts true true true false is = absurd (false≢true is)
four_parts true true false d is = absurd (false≢true is)
four_parts true false c d is = absurd (false≢true is)
four_parts false b c d is = absurd (false≢true is)

none_inside : (a c d : Bool) → (a && c && false && d) ≡ false
none_inside true true d = refl
none_inside true false d = refl
none_inside false c d = refl

judged_there : {K D : Type 0} (o : Option (RoundFacts K D))
    → option_map_or (λ (r : RoundFacts K D). is_judged false r.certification) o false ≡ true
    → (r : RoundFacts K D) × (o ≡ Some r) × (is_judged false r.certification ≡ true)
judged_there None is = absurd (false≢true is)
judged_there (Some r) is = (r, refl, is)

kept_some : {V : Type 0} (b : Bool) (o : Option V) → is_some (cond b o None) ≡ true → (b ≡ true) × (is_some o ≡ true)
kept_some true o is = (refl, is)
kept_some false o is = absurd (false≢true is)

module _ {K D : Type 0} (x : RoundsFacts K D) (m : map.FinMap nat_cmp (RoundFacts K D))
    (shown : x.by_view ≡ map.entries m) (b : Bounds) (kept : AreKept b x) (above from last : ℕ) where
  -- the views of the range that may have been certified false
  abbrev pub range : map.FinMap nat_cmp (Unit {0})
  range = at_or_above (below b.refused (last + 1)) (max from above)

  in_range : (v : ℕ) → map.get range v ≡ cond (leb (max from above) v)
      (cond (ltb v (last + 1)) (map.get b.refused v) None) None
  in_range v = get-kept (below b.refused (last + 1)) (λ u. leb (max from above) u) v
      ∙ ap (λ o. cond (leb (max from above) v) o None) (get-kept b.refused (λ u. ltb u (last + 1)) v)

  found_one : (e : ℕ × Unit {0}) → find nat_cmp e.0 (map.entries range) ≡ Some e.1 → is_refused_above m above e.0 ≡ true
      → list_any (is_refused_between above from last) x.by_view ≡ true
  found_one e found passes =
      let there : is_some (map.get range e.0) ≡ true = ap is_some (map.get-entries range e.0 ∙ found) in
      let low = kept_some _ _ (sym (ap is_some (in_range e.0)) ∙ there) in
      let high = kept_some _ _ low.1 in
      let tests = and_parts (ltb above e.0) _ passes in
      let judged = judged_there (map.get m e.0) tests.1 in
      let from_low = leb-true (max from above) e.0 low.0 in
      let to_high = ltb-true e.0 (last + 1) high.0 in
      any_there (is_refused_between above from last) x.by_view e.0 judged.0
      (ap (find nat_cmp e.0) shown ∙ sym (map.get-entries m e.0) ∙ judged.1)
      (all_true (ltb above e.0) (leb from e.0) (leb e.0 last) (is_judged false judged.0.certification) tests.0
      (le-leb from e.0 (grind (arith, from_low))) (le-leb e.0 last (omega (arith, to_high))) judged.2)

  found_other : (e : ℕ × RoundFacts K D) → find nat_cmp e.0 x.by_view ≡ Some e.1
      → is_refused_between above from last e ≡ true
      → list_any (λ (f : ℕ × Unit {0}). is_refused_above m above f.0) (map.entries range) ≡ true
  found_other e found passes =
      let all = four_parts (ltb above e.0) (leb from e.0) (leb e.0 last) (is_judged false e.1.certification) passes in
      let up = ltb-true above e.0 all.0 in
      let on = leb-true from e.0 all.1 in
      let to = leb-true e.0 last all.2 in
      let may = (kept e.0 e.1 found).refused all.3 in
      let at : map.get m e.0 ≡ Some e.1 = map.get-entries m e.0 ∙ sym (ap (find nat_cmp e.0) shown) ∙ found in
      let noted : map.get range e.0 ≡ map.get b.refused e.0 = in_range e.0
      ∙ rw (le-leb (max from above) e.0 (grind (arith, up, on)), lt-ltb e.0 (last + 1) (omega (arith, to))) refl in
      any_there (λ f. is_refused_above m above f.0) (map.entries range) e.0 tt
      (sym (map.get-entries range e.0) ∙ noted ∙ some_unit (map.get b.refused e.0) may)
      (rw (all.0, at, all.3) refl)
    where
      some_unit : (o : Option (Unit {0})) → is_some o ≡ true → o ≡ Some tt
      some_unit None is = absurd (false≢true is)
      some_unit (Some u) is = refl

  -- a search of them finds whether a view of the range was certified false
  pub searched : list_any (λ (f : ℕ × Unit {0}). is_refused_above m above f.0) (map.entries range) ≡ list_any
      (is_refused_between above from last) x.by_view
  searched = same_truth _ _
      (λ some. let e = any_where _ (map.entries range) (map_rises range) some in found_one e.0 e.1 e.2)
      (λ some. let e = any_where _ x.by_view (rw shown (map_rises m)) some in found_other e.0 e.1 e.2)

-- no view is above one and at or below a lower one
pub none_between : {K D : Type 0} (x : RoundsFacts K D) (above from last : ℕ) → last < above
    → false ≡ list_any (is_refused_between above from last) x.by_view
none_between {K} {D} x above from last under = sym (never x.by_view)
  where
    empty : (v : ℕ) (judged : Bool) → (ltb above v && leb from v && leb v last && judged) ≡ false
    empty v judged = elim (cases_lt above v) [
      | inl over ↦ rw (lt-leb v last (omega (arith, over, under))) (none_inside (ltb above v) (leb from v) judged)
      | inr not_over ↦ rw (le-ltb above v not_over) refl
    ]

    never : (es : List (ℕ × RoundFacts K D)) → list_any (is_refused_between above from last) es ≡ false
    never [] = refl
    never (e ∷ es) = rw (empty e.0 (is_judged false e.1.certification)) (never es)
