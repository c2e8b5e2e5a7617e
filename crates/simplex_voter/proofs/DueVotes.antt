-- The walk over tracked views for what is due, and that nothing is due elsewhere.
use Rattle.std.proofs.Common.{◌≡◌, ℕ, ◌≤◌, Bool, true, false, leb, List, [], ◌∷◌, filter, Option, Some, None, is_some, unwrap_or, refl, ap, sym, ◌∙◌, subst, inl, inr}
use Rattle.std.specs.Prelude.{option_map}
use Rattle.std.specs.List.{find, list_any}
use Rattle.std.specs.Ordering.{nat_cmp}
use Rattle.std.specs.FinMap.Entries as map
use Rattle.std.proofs.lemmas.Bool.{le-leb, false≢true}
use Rattle.simplex_view_maps.proofs.RisingEntries.{rises}
use Rattle.simplex_round.specs.Round.{RoundFacts, new_round, can_notarize, has_unsent_certificate}
use Rattle.simplex_voter.specs.Facts.{StateFacts, Elect, round_of, round_number}
use Rattle.simplex_voter.specs.Rules.{may_notarize, may_finalize}
use Rattle.simplex_voter.specs.DueVotes.{is_due, first_due, AreRoundsOf}
use Rattle.simplex_voter.proofs.Rules.{notarize_round, finalize_parts}
use Rattle.simplex_voter.proofs.Gaps.{cases_bool}
use Rattle.simplex_voter.proofs.Found.{AreFound, found_each, found_filtered, find-filtered, any_there}

-- a walk over a list for the first element that passes
module _ {A : Type 0} (test : A → Bool) (all es : List A) (rest : find test all ≡ find test es) where
  pub passes_later : (x : A) (xs : List A) → es ≡ x ∷ xs → false ≡ test x → find test all ≡ find test xs
  passes_later x xs is fails = rest ∙ ap (find test) is ∙ rw (← fails) refl

-- none passes where none is the first that does
pub none_passes : {A : Type 0} (test : A → Bool) (es : List A) → find test es ≡ None → list_any test es ≡ false
none_passes test [] none = refl
none_passes test (e ∷ es) none = elim (cases_bool (test e)) [
  | inl passes ↦
      let wrong : None ≡ Some e = sym none ∙ rw passes refl in
      absurd (false≢true (ap is_some wrong))
  | inr fails ↦ rw fails (none_passes test es (sym (rw fails refl) ∙ none))
]

none_before : {A B : Type 0} (f : A → B) (o : Option A) → is_some (option_map f o) ≡ false → o ≡ None
none_before f None none = refl
none_before f (Some a) none = absurd (false≢true (sym none))

module _ {K L D : Type 0} (x : StateFacts K L D) where
  rounds_of_found : (es : _) → AreFound x.rounds es → AreRoundsOf x es
  rounds_of_found [] found = tt
  rounds_of_found (e ∷ es) found =
      (ap (λ o. unwrap_or o (new_round x.me x.members (round_number x e.0))) found.0, rounds_of_found es found.1)

  module _ (all : List (ℕ × RoundFacts K D)) (shown : all ≡ x.rounds) (from : ℕ) (es : List (ℕ × RoundFacts K D))
      (are : es ≡ filter (λ e. leb from e.0) all) where
    -- those from one view on
    from_shown : es ≡ filter (λ e. leb from e.0) x.rounds
    from_shown = are ∙ ap (filter (λ e. leb from e.0)) shown

    -- they are rounds of the state
    pub rounds_from : map.is_sorted nat_cmp all ≡ true → AreRoundsOf x es
    rounds_from sorted =
        let rise = rises x.rounds (sym (ap (map.is_sorted nat_cmp) shown) ∙ sorted) in
        subst (AreRoundsOf x) (sym from_shown)
        (rounds_of_found _ (found_filtered x.rounds x.rounds (λ e. leb from e.0) (found_each x.rounds rise)))

    -- the first of them that passes
    pub first_shown : (test : ℕ × RoundFacts K D → Bool)
        → option_map (λ e. e.0) (find test es) ≡ option_map (λ e. e.0) (find test (filter (λ e. leb from e.0) x.rounds))
    first_shown test = ap (λ ds. option_map (λ e. e.0) (find test ds)) from_shown

  -- the first of some, and those after it
  pub rounds_split : (es : _) (e : _) (rest : _) → es ≡ e ∷ rest → AreRoundsOf x es
      → (round_of x e.0 ≡ e.1) × AreRoundsOf x rest
  rounds_split es e rest are all = subst (AreRoundsOf x) are all

  module _ (same : D → D → Bool) (elect : Elect L) where
    -- nothing is known of a view that isn't tracked
    untracked : (v : ℕ) → map.find nat_cmp v x.rounds ≡ None → is_due same elect x v ≡ false
    untracked v none = elim (cases_bool (may_notarize same elect x v)) [
      | inl may ↦ absurd (false≢true (sym (ap can_notarize fresh) ∙ notarize_round same elect x v may))
      | inr no_notarize ↦ elim (cases_bool (may_finalize elect x v)) [
        | inl may ↦ absurd
            (false≢true (sym (ap (λ r. is_some r.notarization) fresh) ∙ (finalize_parts elect x v may).notarized))
        | inr no_finalize ↦ rw (no_notarize, no_finalize) (ap has_unsent_certificate fresh)
      ]
    ]
      where
        fresh : round_of x v ≡ new_round x.me x.members (round_number x v)
        fresh = ap (λ o. unwrap_or o (new_round x.me x.members (round_number x v))) none

    pub nothing_due : (from : ℕ) → is_some (first_due same elect x from) ≡ false
        → (v : ℕ) → from ≤ v → is_due same elect x v ≡ false
    nothing_due from none v low = by_round (map.find nat_cmp v x.rounds) refl
      where
        test : ℕ × RoundFacts K D → Bool
        test e = is_due same elect x e.0

        by_round : (o : Option (RoundFacts K D)) → map.find nat_cmp v x.rounds ≡ o → is_due same elect x v ≡ false
        by_round None is = untracked v is
        by_round (Some r) is = elim (cases_bool (is_due same elect x v)) [
          | inl due ↦
              let kept = find-filtered (λ u. leb from u) v x.rounds ∙ rw (le-leb from v low) is in
              absurd (false≢true
              (sym (none_passes test _ (none_before (λ e. e.0) _ none)) ∙ any_there test _ v r kept due))
          | inr idle ↦ idle
        ]
