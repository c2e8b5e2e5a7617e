-- The views that a scan for proposals to verify visits, and each view's round after it.
use Rattle.std.proofs.Common.{◌≡◌, refl, ap, sym, ◌∙◌, subst, ℕ, Bool, true, false, ◌||◌, ◌&&◌, eqb, if◌then◌else◌, nat_le, List, [], ◌∷◌, Contains, Option, Some, None, is_some, slice_get, unwrap_or, arith, inl, inr}
use Rattle.std.specs.Prelude.{option_map}
use Rattle.std.specs.List.{list_any, filter_map, cons_option}
use Rattle.std.specs.Ordering.{nat_cmp}
use Rattle.std.specs.FinMap.Entries.{find}
use Rattle.std.proofs.lemmas.Bool.{false≢true, true≢false}
use Rattle.simplex_types.specs.Terms.{next_term_start}
use Rattle.simplex_view_maps.proofs.Maps.{is_eq-nat_cmp}
use Rattle.simplex_round.specs.Round.{RoundFacts, new_round}
use Rattle.simplex_voter.specs.Facts.{StateFacts, Elect, round_at, round_of, round_number, is_tracked}
use Rattle.simplex_voter.specs.ProposalRequests.{views_ahead}
use Rattle.simplex_voter.specs.Verification.{through, is_answered, round_left, standing, was_scanned, scan_left, after_try_verify}
use Rattle.simplex_voter.proofs.Walked.{find-changed}
use Rattle.laws_safety.proofs.votes.OutstandingWork.{any_of_kept}
use Rattle.simplex_record.proofs.Rounds.{tracked_changed}
use Rattle.laws_safety.proofs.lists.Splits.{Contains-cases, Contains-cons_rest}

-- the beginning of a list, up to the first that passes

module _ {A : Type 0} (test : A → Bool) where
  pub among_through : (items : List A) (a : A) → Contains (through test items) a → Contains items a
  among_through [] a h = absurd (omega (arith, h.1))
  among_through (b ∷ items) a h = by_test (test b) h (among_through items a)
    where
      by_test : (t : Bool) → Contains (if t then b ∷ [] else b ∷ through test items) a
          → (Contains (through test items) a → Contains items a) → Contains (b ∷ items) a
      by_test true h behind = elim (Contains-cases b [] a h) [
        | inl here ↦ subst (Contains (b ∷ items)) here (0, omega arith, refl)
        | inr none ↦
            absurd (omega (arith, none.1))
      ]
      by_test false h behind = elim (Contains-cases b (through test items) a h) [
        | inl here ↦ subst (Contains (b ∷ items)) here (0, omega arith, refl)
        | inr later ↦
            Contains-cons_rest b items a (behind later)
      ]

  any_through : (is : A → Bool) (items : List A) → list_any is (through test items) ≡ true → list_any is items ≡ true
  any_through is [] any = any
  any_through is (b ∷ items) any = by_test (test b) any (any_through is items)
    where
      by_here : (here : Bool) (rest : List A) → (here || list_any is rest) ≡ true
          → (list_any is rest ≡ true → list_any is items ≡ true) → (here || list_any is items) ≡ true
      by_here true rest any behind = refl
      by_here false rest any behind = behind any

      by_test : (t : Bool) → list_any is (if t then b ∷ [] else b ∷ through test items) ≡ true
          → (list_any is (through test items) ≡ true → list_any is items ≡ true) → (is b || list_any is items) ≡ true
      by_test true any behind = by_here (is b) [] any (λ none. absurd (false≢true none))
      by_test false any behind = by_here (is b) (through test items) any behind

pub any_there : {A : Type 0} (is : A → Bool) (items : List A) (a : A) → Contains items a → is a ≡ true
    → list_any is items ≡ true
any_there is [] a h so = absurd (omega (arith, h.1))
any_there is (b ∷ items) a h so = elim (Contains-cases b items a h) [
  | inl here ↦ ap (λ t. t || list_any is items) (ap is here ∙ so)
  | inr later ↦ by_here (is b) (any_there is items a later so)
]
  where
    by_here : (t : Bool) → list_any is items ≡ true → (t || list_any is items) ≡ true
    by_here true any = refl
    by_here false any = any

-- of the values made from a list's items, the first is at the first item that passes
pub first_through : {A B : Type 0} (make : A → Option B) (test : A → Bool) → ((a : A) → test a ≡ is_some (make a))
    → (items : List A) (b : B) → slice_get (filter_map make items) 0 ≡ Some b
    → (a : A) × Contains (through test items) a × (make a ≡ Some b)
first_through make test says [] b is = absurd (false≢true (ap is_some is))
first_through {A} {B} make test says (a ∷ items) b is =
    by_made (make a) (test a) refl (says a) (first_through make test says items b) is
  where
    by_made : (o : Option B) (t : Bool) → make a ≡ o → t ≡ is_some (make a)
        → (slice_get (filter_map make items) 0 ≡ Some b → (c : A) × Contains (through test items) c × (make c ≡ Some b))
        → slice_get (cons_option o (filter_map make items)) 0 ≡ Some b
        → (c : A) × Contains (if t then a ∷ [] else a ∷ through test items) c × (make c ≡ Some b)
    by_made None true none passes behind is = absurd (true≢false (passes ∙ ap is_some none))
    by_made None false none passes behind is =
        (let found = behind is in (found.0, Contains-cons_rest a (through test items) found.0 found.1, found.2))
    by_made (Some c) true made passes behind is = (a, (0, omega arith, refl), made ∙ is)
    by_made (Some c) false made passes behind is = (a, (0, omega arith, refl), made ∙ is)

among_found : {V : Type 0} (v : ℕ) (es : List (ℕ × V)) → list_any (λ e. eqb v e.0) es ≡ is_some (find nat_cmp v es)
among_found v [] = refl
among_found v (e ∷ es) = rw (is_eq-nat_cmp v e.0, among_found v es) (by_here (eqb v e.0))
  where
    by_here : (b : Bool) → (b || is_some (find nat_cmp v es)) ≡ is_some (if b then Some e.1 else find nat_cmp v es)
    by_here true = refl
    by_here false = refl

module _ {K L D : Type 0} (same : D → D → Bool) (elect : Elect L) (x : StateFacts K L D) (v : ℕ) where
  -- only tracked views are scanned
  scanned_tracked : was_scanned same elect x v ≡ true → is_tracked x v ≡ true
  scanned_tracked scanned =
      let is : ℕ × RoundFacts K D → Bool = λ e. eqb v e.0 in
      sym (among_found v x.rounds)
      ∙ any_of_kept is (λ e. nat_le x.current e.0 && nat_le e.0 (next_term_start x.terms.term_length x.current))
      x.rounds (any_through (λ e. is_answered (standing same elect x e)) is (views_ahead x) scanned)

  unscanned : (b : Bool) → was_scanned same elect x v ≡ b → round_at x v ≡ None → b ≡ false
  unscanned false is none = refl
  unscanned true is none = absurd (true≢false (sym (scanned_tracked is) ∙ ap is_some none))

  pub tracked_scanned : is_tracked (after_try_verify same elect x) v ≡ is_tracked x v
  tracked_scanned = tracked_changed (scan_left same elect x) x v

  pub round_scanned : round_of (after_try_verify same elect x) v ≡ scan_left same elect x v (round_of x v)
  round_scanned = ap (λ o. unwrap_or o fresh) (find-changed (scan_left same elect x) v x.rounds)
      ∙ by_found (round_at x v) refl
    where
      fresh : RoundFacts K D
      fresh = new_round x.me x.members (round_number x v)

      by_found : (o : Option (RoundFacts K D)) → round_at x v ≡ o
          → unwrap_or (option_map (scan_left same elect x v) o) fresh ≡ scan_left same elect x v (unwrap_or o fresh)
      by_found None none = sym (ap (λ b. if b then round_left fresh x.moment (standing same elect x (v, fresh))
          else fresh) (unscanned (was_scanned same elect x v) refl none))
      by_found (Some r) some = refl
