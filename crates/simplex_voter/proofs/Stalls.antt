-- The first entry that passes a test, and when the current term counts as stalled.
use Rattle.std.proofs.Common.{◌≡◌, ℕ, Bool, true, false, ◌&&◌, ltb, leb, List, [], ◌∷◌, filter, Option, Some, None, slice_get, is_some, refl, ap, sym, ◌∙◌, inl, inr, arith}
use Rattle.std.specs.Prelude.{option_and_then}
use Rattle.std.specs.Ordering.{nat_cmp, ord_max}
use Rattle.std.proofs.lemmas.Bool.Decides.{nat_tests}
use Rattle.simplex_types.specs.Terms.{term_start}
use Rattle.simplex_types.specs.declared.types.window.Terms.{Terms}
use Rattle.simplex_round.specs.Round.{RoundFacts}
use Rattle.simplex_voter.specs.Facts.{StateFacts}
use Rattle.simplex_voter.specs.Timeouts.{is_entered_between, is_stalling, standing_deadline, stall_deadline}
use Rattle.simplex_voter.proofs.Gaps.{cases_bool}

-- a walk over a list for the first element that passes
module _ {A : Type 0} (test : A → Bool) (all es : List A)
    (rest : slice_get (filter test all) 0 ≡ slice_get (filter test es) 0) where
  pub first_found : (x : A) (xs : List A) → es ≡ x ∷ xs → true ≡ test x → slice_get (filter test all) 0 ≡ Some x
  first_found x xs is passes = rest ∙ ap (λ ys. slice_get (filter test ys) 0) is ∙ rw (← passes) refl

  pub first_next : (x : A) (xs : List A) → es ≡ x ∷ xs → false ≡ test x
      → slice_get (filter test all) 0 ≡ slice_get (filter test xs) 0
  first_next x xs is fails = rest ∙ ap (λ ys. slice_get (filter test ys) 0) is ∙ rw (← fails) refl

  pub first_end : es ≡ [] → slice_get (filter test all) 0 ≡ None
  first_end is = rest ∙ ap (λ ys. slice_get (filter test ys) 0) is

-- a filter of a filtered list
pub filter-filter : {A : Type 0} (p q r : A → Bool) → ((x : A) → (p x && q x) ≡ r x) → (xs : List A)
    → filter q (filter p xs) ≡ filter r xs
filter-filter p q r same [] = refl
filter-filter p q r same (x ∷ xs) = elim (cases_bool (p x)) [
  | inl passes ↦
      let alike : q x ≡ r x = sym (rw passes refl) ∙ same x in
      rw (passes, alike, filter-filter p q r same xs) refl
  | inr fails ↦
      let alike : false ≡ r x = sym (rw fails refl) ∙ same x in
      rw (fails, ← alike) (filter-filter p q r same xs)
]

from_higher : (start low high view : ℕ) (b : Bool)
    → (leb (ord_max nat_cmp start low) view && (ltb low view && leb view high && b))
    ≡ (ltb low view && leb start view && leb view high && b)
from_higher start low high view true = grind (arith, nat_tests)
from_higher start low high view false = grind (arith, nat_tests)

module _ {K L D : Type 0} (x : StateFacts K L D) where
  abbrev Entries : Type 0
  Entries = List (ℕ × RoundFacts K D)

  -- the deadline of the first entered view of some entries
  abbrev first_deadline : Entries → Option ℕ
  first_deadline es = option_and_then (λ e. standing_deadline e.1)
      (slice_get (filter (is_entered_between x.finalized x.current) es) 0)

  from_later : (start low : ℕ) → start ≡ term_start x.terms.term_length x.current
      → low ≡ ord_max nat_cmp start x.finalized → first_deadline (filter (λ e. leb low e.0) x.rounds) ≡ stall_deadline x
  from_later start low begins is =
      let same = filter-filter (λ (e : ℕ × RoundFacts K D). leb low e.0) (is_entered_between x.finalized x.current)
      (is_stalling x) (λ e. rw (is, begins) (from_higher (term_start x.terms.term_length x.current) x.finalized
      x.current e.0 (is_some e.1.entered_at))) x.rounds in
      ap (λ (es : Entries). option_and_then (λ (e : ℕ × RoundFacts K D). standing_deadline e.1) (slice_get es 0)) same

  -- the deadline is looked up from the term's start and the last finalized view on
  pub stall_shown : (z : StateFacts K L D) → x ≡ z → (start low : ℕ) (terms : Terms) (es : Entries) (answer : Option ℕ)
      → terms ≡ x.terms → start ≡ term_start terms.term_length x.current → low ≡ ord_max nat_cmp start x.finalized
      → es ≡ filter (λ e. leb low e.0) x.rounds
      → answer ≡ option_and_then (λ e. standing_deadline e.1)
      (slice_get (filter (is_entered_between x.finalized x.current) es) 0) → answer ≡ stall_deadline x
  stall_shown z shown start low terms es answer same begins is read found =
      found ∙ rw read (from_later start low (begins ∙ rw same refl) is)
