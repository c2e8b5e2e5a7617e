-- The last entry of a map among those that pass a test.
use Rattle.std.proofs.Common.{◌≡◌, ℕ, suc, ◌-◌, ◌<◌, ◌≤◌, Bool, true, false, cond, List, [], ◌∷◌, length, slice_get, Option, None, Some, is_some, inl, inr, refl, sym, ◌∙◌, ap, arith}
use Rattle.std.specs.Ordering.{nat_cmp}
use Rattle.std.specs.FinMap as finmap
use Rattle.std.specs.FinMap.{FinMap, find}
use Rattle.std.proofs.lemmas.Bool.{cases_eq, cases_lt, false≢true}
use Rattle.simplex_view_maps.specs.Tracked.{last_entry}
use Rattle.simplex_view_maps.proofs.RisingEntries.{Rises, find_above}
use Rattle.simplex_view_maps.proofs.Maps.{map_rises, get-kept}
use Rattle.simplex_view_maps.proofs.Maps.{find_at_key, find_other}

module _ {V : Type 0} where
  -- the last of entries whose views rise is found at its view, and no view there is above it
  record IsLast (es : List (ℕ × V)) (u : ℕ) (x : V) : Type 0 where
    found : find nat_cmp u es ≡ Some x
    highest : (w : ℕ) → is_some (find nat_cmp w es) ≡ true → w ≤ u

  last_rises : (es : List (ℕ × V)) (u : ℕ) (x : V) → Rises es → slice_get es (length es - 1) ≡ Some (u, x)
      → IsLast es u x
  last_rises [] u x r is = absurd (let none : None ≡ Some (u, x) = is in cc)
  last_rises (e ∷ []) u x r is =
      let same : Some e ≡ Some (u, x) = is in
      let at : e ≡ (u, x) = cc in
      record {
        found = find_at_key u e [] (ap (λ (p : ℕ × V). p.0) (sym at)) ∙ ap (λ (p : ℕ × V). Some p.1) at;
        highest = λ w there. elim (cases_eq w e.0) [
          | inl here ↦ let to : e.0 ≡ u = ap (λ (p : ℕ × V). p.0) at in omega (arith, here, to)
          | inr other ↦ absurd (false≢true (ap is_some (sym (find_other w e [] other)) ∙ there))
        ];
      }
  last_rises (e ∷ d ∷ es) u x r is =
      let behind : length (e ∷ d ∷ es) - 1 ≡ suc (length (d ∷ es) - 1) = omega arith in
      let rest = last_rises (d ∷ es) u x r.1 (sym (ap (slice_get (e ∷ d ∷ es)) behind) ∙ is) in
      let above : e.0 < u = elim (cases_lt e.0 u) [
        | inl h ↦ h
        | inr h ↦ absurd (let none : None ≡ Some x = sym (find_above u e.0 (d ∷ es) h r.0) ∙ rest.found in cc)
      ] in
      record {
        found = find_other u e (d ∷ es) (λ same. let at : u ≡ e.0 = same in absurd (omega (arith, at, above)))
            ∙ rest.found;
        highest = λ w there. elim (cases_eq w e.0) [
          | inl here ↦ omega (arith, here, above)
          | inr other ↦ rest.highest w (ap is_some (sym (find_other w e (d ∷ es) other)) ∙ there)
        ];
      }

  -- the same of a map's entries that pass a test
  pub record IsLastKept (m : FinMap nat_cmp V) (p : ℕ → Bool) (u : ℕ) (x : V) : Type 0 where
    pub found : finmap.get m u ≡ Some x
    pub passes : p u ≡ true
    pub highest : (w : ℕ) → finmap.contains_key m w ≡ true → p w ≡ true → w ≤ u

  both_from : (b : Bool) (o : Option V) (x : V) → cond b o None ≡ Some x → (o ≡ Some x) × (b ≡ true)
  both_from true o x is = (is, refl)
  both_from false o x is = absurd (let none : None ≡ Some x = is in cc)

  pub last_kept : (m : FinMap nat_cmp V) (p : ℕ → Bool) (u : ℕ) (x : V)
      → last_entry (finmap.retain_keys m p) ≡ Some (u, x) → IsLastKept m p u x
  last_kept m p u x is =
      let k = finmap.retain_keys m p in
      let last = last_rises (finmap.entries k) u x (map_rises k) is in
      let both = both_from (p u) (finmap.get m u) x (sym (get-kept m p u) ∙ finmap.get-entries k u ∙ last.found) in
      record {
        found = both.0;
        passes = both.1;
        highest = λ w there passes.
            last.highest w (ap is_some (sym (finmap.get-entries k w) ∙ get-kept m p w
            ∙ ap (λ b. cond b (finmap.get m w) None) passes) ∙ there);
      }
