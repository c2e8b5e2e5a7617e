-- A walk over the terms for a view that is not covered.
use Rattle.std.proofs.Common.{◌≡◌, ◌⊎◌, ℕ, ◌+◌, ◌*◌, ◌/◌, ◌-◌, ◌<◌, ◌≤◌, Bool, true, false, ◌&&◌, ◌||◌, leb, List, [], ◌∷◌, length, Option, Some, None, is_some, slice_get, filter, refl, ap, ◌∙◌, inl, inr, arith}
use Rattle.std.specs.List.{list_any}
use Rattle.std.specs.Ordering.{nat_cmp, is_lt, is_gt}
use Rattle.std.specs.Option.{option_map}
use Rattle.std.specs.FinMap as fin
use Rattle.std.specs.Prelude.{map}
use Rattle.std.specs.FinMap.{FinMap}
use Rattle.std.proofs.lemmas.Bool.{cases_lt}
use Rattle.std.proofs.lemmas.Bool.Decides.{nat_tests}
use Rattle.std.proofs.Math.Nat.{lt-div-mul-add}
use Rattle.std.proofs.lemmas.Nat.{div-mul-add}
use Rattle.simplex_view_maps.specs.Tracked.{below, last_entry}
use Rattle.simplex_types.specs.Terms.{term_start, next_term_start, covers}
use Rattle.simplex_view_maps.specs.ByTerm.{ByTermFacts, has_covering, Gapless}
use Rattle.simplex_types.proofs.Covers.{same_start}
use Rattle.simplex_view_maps.proofs.Maps.{entries-retain_keys}

pub cases_bool : (b : Bool) → (b ≡ true) ⊎ (b ≡ false)
cases_bool true = inl refl
cases_bool false = inr refl

pub or_any : (b c : Bool) → c ≡ true → (b || c) ≡ true
or_any true c h = refl
or_any false c h = h

module _ {V : Type 0} where
  ends : (e : ℕ × V) (es : List (ℕ × V)) → is_some (slice_get (e ∷ es) (length es)) ≡ true
  ends e [] = refl
  ends e (f ∷ es) = ends f es

  ends_by : (e : ℕ × V) (es : List (ℕ × V)) → is_some (slice_get (e ∷ es) (length (e ∷ es) - 1)) ≡ true
  ends_by e es = let n : length (e ∷ es) - 1 ≡ length es = omega arith in rw n (ends e es)

  some_last : (p : ℕ → Bool) (es : List (ℕ × V))
      → is_some (slice_get (filter (λ e. p e.0) es) (length (filter (λ e. p e.0) es) - 1)) ≡ list_any p
      (map (λ e. e.0) es)
  some_last p [] = refl
  some_last p (e ∷ es) = elim (cases_bool (p e.0)) [
    | inl passes ↦ rw passes (ends_by e (filter (λ e. p e.0) es))
    | inr fails ↦ rw fails (some_last p es)
  ]

  -- whether a last entry is left says whether some key passes
  pub any_last : (m : FinMap nat_cmp V) (p : ℕ → Bool)
      → is_some (last_entry (fin.retain_keys m p)) ≡ list_any p (fin.keys m)
  any_last m p = ap (λ es. is_some (slice_get es (length es - 1))) (entries-retain_keys m p)
      ∙ some_last p (fin.entries m)

pub some_mapped : {X Y : Type 0} (f : X → Y) (o : Option X) → is_some o ≡ is_some (option_map f o)
some_mapped f None = refl
some_mapped f (Some x) = refl

any_on : (p q : ℕ → Bool) (us : List ℕ) → ((u : ℕ) → p u ≡ true → q u ≡ true) → list_any p us ≡ true
    → list_any q us ≡ true
any_on p q [] f h = h
any_on p q (u ∷ us) f h = elim (cases_bool (p u)) [
  | inl passes ↦ rw (f u passes) refl
  | inr fails ↦ or_any (q u) _ (any_on p q us f (rw fails at h))
]

pub next_start : (T c : ℕ) → 0 < T → 1 ≤ c → c < next_term_start T c
    → term_start T (next_term_start T c) ≡ next_term_start T c
next_start T c some one up =
    let e : next_term_start T c - 1 ≡ ((c - 1) / T + 1) * T + 0 = omega arith in
    let k : (next_term_start T c - 1) / T ≡ (c - 1) / T + 1 = ap (λ n. n / T) e
    ∙ div-mul-add ((c - 1) / T + 1) T 0 some in
    ap (λ n. n * T + 1) k ∙ omega arith

pub next_above : (T c : ℕ) → 0 < T → 1 ≤ c → c < next_term_start T c
next_above T c t one = let d : (c - 1) < (c - 1) / T * T + T = lt-div-mul-add t in omega arith

raised : (u c w : ℕ) (b : Bool) → c ≤ w → (leb u c && b) ≡ true → (leb u w && b) ≡ true
raised u c w b up h = grind (arith, nat_tests)

module _ {V : Type 0} (m : ByTermFacts V) where
  -- a view that covers one covers the rest of its term
  pub covered_on : (c w : ℕ) → 1 ≤ c → c ≤ w → w < next_term_start m.term_length c → has_covering m c ≡ true
      → has_covering m w ≡ true
  covered_on c w one up below h = any_on (λ u. covers m.term_length u c) (λ u. covers m.term_length u w)
      (fin.keys m.by_view) (λ u covered. rw (same_start m.term_length c w one up below) (raised u c w _ up covered)) h

  pub gapless_on : (p c : ℕ) → p < c → Gapless m p c → has_covering m c ≡ true
      → Gapless m p (next_term_start m.term_length c)
  gapless_on p c up before here w low high = elim (cases_lt w c) [
    | inl below ↦ before w low below
    | inr above ↦ covered_on c w (omega arith) above high here
  ]

  pub gapless_first : (p c : ℕ) → c ≡ p + 1 → Gapless m p c
  gapless_first p c next w low high = absurd (omega arith)

  pub gapless_down : (p v c : ℕ) → v ≤ c → Gapless m p c → Gapless m p v
  gapless_down p v c up h w low high = h w low (omega arith)

pub lt_no : (x y : ℕ) → false ≡ is_lt (nat_cmp x y) → y ≤ x
lt_no x y h = elim (cases_lt x y) [
  | inl lower ↦ grind (arith, nat_tests)
  | inr higher ↦ higher
]

pub gt_no : (x y : ℕ) → false ≡ is_gt (nat_cmp x y) → x ≤ y
gt_no x y h = elim (cases_lt y x) [
  | inl lower ↦ grind (arith, nat_tests)
  | inr higher ↦ higher
]

pub gt_yes : (x y : ℕ) → true ≡ is_gt (nat_cmp x y) → y < x
gt_yes x y h = elim (cases_lt y x) [
  | inl lower ↦ lower
  | inr higher ↦ grind (arith, nat_tests)
]

pub lt_yes : (x y : ℕ) → true ≡ is_lt (nat_cmp x y) → x < y
lt_yes x y h = elim (cases_lt x y) [
  | inl lower ↦ lower
  | inr higher ↦ grind (arith, nat_tests)
]
