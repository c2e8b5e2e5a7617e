-- Notarized views of a window.
use Rattle.std.proofs.Common.{◌≡◌, ℕ, Bool, true, false, ◌&&◌, ◌||◌, ltb, leb, IsTrue, List, [], ◌∷◌, filter, refl, ap, sym, ◌∙◌, inl, inr}
use Rattle.std.specs.Prelude.{◌==◌}
use Rattle.std.specs.List.{list_any}
use Rattle.std.specs.Ordering.{nat_cmp}
use Rattle.std.specs.FinMap as map
use Rattle.std.proofs.lemmas.Bool.{false≢true, eqb-true}
use Rattle.simplex_view_maps.specs.Tracked.{at_or_above, below}
use Rattle.simplex_view_maps.proofs.Maps.{entries-retain_keys}
use Rattle.simplex_voter.proofs.Gaps.{cases_bool}

pub any-filter : {A : Type 0} (p q : A → Bool) (xs : List A) → list_any q (filter p xs) ≡ list_any (λ x. p x && q x) xs
any-filter p q [] = refl
any-filter p q (x ∷ xs) = elim (cases_bool (p x)) [
  | inl passes ↦ rw passes (ap (λ b. q x || b) (any-filter p q xs))
  | inr fails ↦ rw fails (any-filter p q xs)
]

in_turn : (a b c : Bool) → (b && (a && c)) ≡ (a && b && c)
in_turn true b c = refl
in_turn false true c = refl
in_turn false false c = refl

-- a test of the entries between two views
pub any_between : {V : Type 0} (m : map.FinMap nat_cmp V) (from to : ℕ) (test : V → Bool)
    → list_any (λ e. test e.1) (map.entries (at_or_above (below m to) from)) ≡ list_any
    (λ e. leb from e.0 && ltb e.0 to && test e.1) (map.entries m)
any_between {V} m from to test =
    ap (list_any (λ e. test e.1)) (entries-retain_keys (below m to) (λ u. leb from u)
    ∙ ap (filter (λ e. leb from e.0)) (entries-retain_keys m (λ u. ltb u to)))
    ∙ any-filter (λ e. leb from e.0) (λ e. test e.1) (filter (λ e. ltb e.0 to) (map.entries m))
    ∙ any-filter (λ e. ltb e.0 to) (λ e. leb from e.0 && test e.1) (map.entries m)
    ∙ (λ i. list_any (λ (e : ℕ × V). in_turn (leb from e.0) (ltb e.0 to) (test e.1) i) (map.entries m))

-- a view that is not genesis
pub not_zero : (v : ℕ) → (v ≡ 0 → IsTrue false) → (v == 0) ≡ false
not_zero v never = elim (cases_bool (v == 0)) [
  | inl same ↦ absurd (false≢true (never (eqb-true v 0 same)))
  | inr other ↦ other
]

-- a walk over a list for an element that passes
module _ {A : Type 0} (test : A → Bool) (all es : List A) (rest : list_any test all ≡ list_any test es) where
  pub any_found : (x : A) (xs : List A) → es ≡ x ∷ xs → true ≡ test x → true ≡ list_any test all
  any_found x xs is passes = sym (rest ∙ ap (list_any test) is ∙ rw (← passes) refl)

  pub any_next : (x : A) (xs : List A) → es ≡ x ∷ xs → false ≡ test x → list_any test all ≡ list_any test xs
  any_next x xs is fails = rest ∙ ap (list_any test) is ∙ rw (← fails) refl

  pub any_end : es ≡ [] → false ≡ list_any test all
  any_end is = sym (rest ∙ ap (list_any test) is)
