-- The parent of a proposal that may be voted for lies below it, and each view between is nullified.
use Rattle.std.proofs.Common.{◌≡◌, refl, ap, sym, ◌∙◌, subst, ℕ, ◌+◌, ◌-◌, ◌<◌, ◌⊎◌, inl, inr, Bool, true, false, ◌&&◌, ◌||◌, ◌==◌, nat_lt, nat_le, if◌then◌else◌, List, [], ◌∷◌, Contains, Option, Some, None, is_some, is_none, unwrap_or, arith}
use Rattle.std.specs.Prelude.{option_and_then, MatchOption}
use Rattle.std.specs.List.{filter_map, cons_option, last_or, list_any}
use Rattle.std.specs.Option.{option_map_or}
use Rattle.std.proofs.lemmas.Bool.{false≢true, eqb-true}
use Rattle.std.proofs.lemmas.Bool.Decides.{nat_tests}
use Rattle.simplex_types.specs.Proposal.{same_proposal}
use Rattle.simplex_types.specs.declared.types.messages.Proposal.{Proposal}
use Rattle.simplex_round.specs.Round.{RoundFacts, new_round}
use Rattle.simplex_voter.specs.Facts.{StateFacts, Elect, round_at, round_of, round_number}
use Rattle.simplex_voter.specs.Gaps.{IsGapless, IsFirstGap, is_gapless, first_unnullified_view}
use Rattle.simplex_voter.specs.Windows.{is_term_start}
use Rattle.simplex_voter.specs.Payloads.{explicit_ancestry_payload, optimistic_ancestry_payload, is_handoff_parent}
use Rattle.simplex_voter.specs.Parents.{at_view, has_valid_parent_span, ancestry_payload_for_child, parent_payload_for, explicit_below, highest_explicit, preferred_at_start, find_parent, handoff, is_payload, is_parent, leads, holds_binding, verification_matches}
use Rattle.simplex_voter.proofs.Gaps.{and_parts, first_unnullified_view-is}
use Rattle.laws_safety.proofs.lists.Splits.{Contains-cons_rest}

-- one of a list that passes
pub any_of : {A : Type 0} (test : A → Bool) (items : List A) → list_any test items ≡ true
    → (a : A) × Contains items a × (test a ≡ true)
any_of test [] is = absurd (false≢true is)
any_of {A} test (a ∷ items) is = by_test (test a) refl (any_of test items) is
  where
    by_test : (b : Bool) → test a ≡ b → (list_any test items ≡ true → (c : A) × Contains items c × (test c ≡ true))
        → (b || list_any test items) ≡ true → (c : A) × Contains (a ∷ items) c × (test c ≡ true)
    by_test true here behind is = (a, (0, omega arith, refl), here)
    by_test false here behind is =
        (let found = behind is in (found.0, Contains-cons_rest a items found.0 found.1, found.2))

either : (a b : Bool) → (a || b) ≡ true → (a ≡ true) ⊎ (b ≡ true)
either true b is = inl refl
either false b is = inr is

view_with : {D : Type 0} (v : ℕ) (o : Option D) (e : ℕ × D) → at_view v o ≡ Some e → e.0 ≡ v
view_with v None e is = absurd (false≢true (ap is_some is))
view_with {D} v (Some d) e is =
    let same_entry : ◌≡◌ {A = ℕ × D} (v, d) e = ap (λ o. unwrap_or o e) is in
    sym (ap (λ (f : ℕ × D). f.0) same_entry)

module _ {K L D : Type 0} (x : StateFacts K L D) (v : ℕ) (some : 0 < x.terms.term_length) where
  -- p lies below v, and each view between is covered
  abbrev pub IsGaplessFrom : ℕ → Type 0
  IsGaplessFrom p = (p < v) × IsGapless x p v

  gapless_so : (p : ℕ) → is_gapless x p v ≡ true → IsGapless x p v
  gapless_so p is = by_gap (first_unnullified_view x p v) refl (first_unnullified_view-is x p v some) is
    where
      by_gap : (o : Option ℕ) → first_unnullified_view x p v ≡ o → MatchOption o (IsGapless x p v) (IsFirstGap x p v)
          → is_none o ≡ true → IsGapless x p v
      by_gap None none found is = found
      by_gap (Some w) there found is = absurd (false≢true is)

  next_reaches : 0 < v → IsGaplessFrom (v - 1)
  next_reaches positive = (omega arith, λ w above below. absurd (omega arith))

  -- the highest explicit view below

  below_entry : (e : ℕ × RoundFacts K D) (f : ℕ × D) → explicit_below x v e ≡ Some f → f.0 < v
  below_entry e f is = by_test (nat_lt e.0 v) refl is
    where
      by_test : (b : Bool) → nat_lt e.0 v ≡ b
          → (if b then at_view e.0 (explicit_ancestry_payload x e.0) else None) ≡ Some f → f.0 < v
      by_test true lower is =
          (let at = view_with e.0 (explicit_ancestry_payload x e.0) f is in grind (arith, nat_tests, at, lower))
      by_test false lower is = absurd (false≢true (ap is_some is))

  last_below : (es : List (ℕ × RoundFacts K D)) (o : Option (ℕ × D)) → ((f : ℕ × D) → o ≡ Some f → f.0 < v)
      → (f : ℕ × D) → last_or o (filter_map (explicit_below x v) es) ≡ Some f → f.0 < v
  last_below [] o lower f is = lower f is
  last_below (e ∷ es) o lower f is = elim (explicit_below x v e) as
      (λ found. explicit_below x v e ≡ found → last_or o (cons_option found (filter_map (explicit_below x v) es)) ≡ Some
      f → f.0 < v) [
        | None ↦ λ none is. last_below es o lower f is
        | Some b ↦ λ found is. last_below es (Some b) (λ c as_c. below_entry e c (found ∙ as_c)) f is
      ] refl is

  genesis_below : 0 < v → (f : ℕ × D) → at_view 0 x.genesis ≡ Some f → f.0 < v
  genesis_below positive f is = let at = view_with 0 x.genesis f is in omega (arith, at)

module _ {K L D : Type 0} (same : D → D → Bool) (decides : (d e : D) → same d e ≡ true → d ≡ e) (elect : Elect L)
    (x : StateFacts K L D) (v : ℕ) (some : 0 < x.terms.term_length) where
  by_allowed : (p : ℕ) (d : D) → is_payload same (parent_payload_for same elect x v p) d ≡ true
      → IsGaplessFrom x v some p
  unfolding parent_payload_for has_valid_parent_span
  by_allowed p d is = by_test (has_valid_parent_span x v p && is_gapless x p v) refl is
    where
      by_test : (b : Bool) → (has_valid_parent_span x v p && is_gapless x p v) ≡ b
          → is_payload same (if b then ancestry_payload_for_child same elect x v p else None) d ≡ true
          → IsGaplessFrom x v some p
      by_test true met found =
          let a = and_parts (has_valid_parent_span x v p) (is_gapless x p v) met in
          let b = and_parts (nat_lt p v && nat_le x.finalized p) (p + 1 == v || is_term_start x v) a.0 in
          let c = and_parts (nat_lt p v) (nat_le x.finalized p) b.0 in
          (grind (arith, nat_tests, c.0), gapless_so x v some p a.1)
      by_test false met found = absurd (false≢true found)

  at_before : 0 < v → (o : Option D) (found : ℕ × D) → at_view (v - 1) o ≡ Some found → IsGaplessFrom x v some found.0
  at_before positive o found is = subst (λ p. IsGaplessFrom x v some p) (sym (view_with (v - 1) o found is))
      (next_reaches x v some positive)

  handed : 0 < v → (found : ℕ × D) → handoff same elect x (v - 1) ≡ Some found → IsGaplessFrom x v some found.0
  handed positive found is = by_test (is_handoff_parent elect x (v - 1)) is
    where
      by_test : (b : Bool) → (if b then at_view (v - 1) (optimistic_ancestry_payload same elect x (v - 1)) else None)
          ≡ Some found → IsGaplessFrom x v some found.0
      by_test true is = at_before positive (optimistic_ancestry_payload same elect x (v - 1)) found is
      by_test false is = absurd (false≢true (ap is_some is))

  by_preferred : 0 < v → (found : ℕ × D) → find_parent same elect x v ≡ Some found → IsGaplessFrom x v some found.0
  unfolding find_parent
  by_preferred positive found is = by_start (is_term_start x v) is
    where
      over : (o : Option (ℕ × D)) → highest_explicit x v ≡ o
          → option_and_then (λ top. if is_gapless x top.0 v then Some top else handoff same elect x (v - 1)) o ≡ Some
          found → IsGaplessFrom x v some found.0
      over None none e = absurd (false≢true (ap is_some e))
      over (Some top) there e = by_gap (is_gapless x top.0 v) refl e
        where
          by_gap : (b : Bool) → is_gapless x top.0 v ≡ b
              → (if b then Some top else handoff same elect x (v - 1)) ≡ Some found → IsGaplessFrom x v some found.0
          by_gap true closed e' = (let one : top ≡ found = ap (λ o. unwrap_or o found) e' in
              subst (λ (k : ℕ × D). IsGaplessFrom x v some k.0) one (
                last_below x v some x.rounds (at_view 0 x.genesis) (genesis_below x v some positive) top there,
                gapless_so x v some top.0 closed,
              ))
          by_gap false gap e' = handed positive found e'

      by_start : (b : Bool) → (if b then preferred_at_start same elect x v else at_view (v - 1)
          (ancestry_payload_for_child same elect x v (v - 1))) ≡ Some found → IsGaplessFrom x v some found.0
      by_start true e = over (highest_explicit x v) refl e
      by_start false e = at_before positive (ancestry_payload_for_child same elect x v (v - 1)) found e

  by_parent : 0 < v → (o : Option (ℕ × D)) → find_parent same elect x v ≡ o → (p : ℕ) (d : D)
      → is_parent same o p d ≡ true → IsGaplessFrom x v some p
  by_parent positive None none p d is = absurd (false≢true is)
  by_parent positive (Some found) there p d is =
      let first = (and_parts (found.0 == p) (same found.1 d) is).0 in
      subst (λ q. IsGaplessFrom x v some q) (eqb-true found.0 p first) (by_preferred positive found there)

  -- a bound proposal that matches
  pub bound_reaches : 0 < v → verification_matches same elect x v ≡ true → (p : Proposal D) (d : D)
      → (round_of x v).slot.held ≡ Some p → (round_of x v).binding ≡ Some (p, d) → IsGaplessFrom x v some p.parent
  unfolding verification_matches
  bound_reaches positive matches p d holds bound = by_round (round_at x v) refl matches holds bound
    where
      stands : (r : RoundFacts K D) (q : Option (Proposal D)) → q ≡ Some p
          → option_map_or (λ h. same_proposal same h p
          && (is_payload same (parent_payload_for same elect x v h.parent) d
          || (leads x r && is_parent same (find_parent same elect x v) h.parent d))) q false ≡ true
          → IsGaplessFrom x v some p.parent
      stands r None none is = absurd (false≢true is)
      stands r (Some h) here is =
          let one : h ≡ p = ap (λ o. unwrap_or o p) here in
          let parts = and_parts (same_proposal same h p)
          (is_payload same (parent_payload_for same elect x v h.parent) d
          || (leads x r && is_parent same (find_parent same elect x v) h.parent d)) is in
          subst (λ (k : Proposal D). IsGaplessFrom x v some k.parent) one (elim (either _ _ parts.1) [
            | inl allowed ↦ by_allowed h.parent d allowed
            | inr preferred ↦ by_parent positive (find_parent same elect x v) refl h.parent d
                (and_parts (leads x r) _ preferred).1
          ])

      by_binding : (r : RoundFacts K D) (b : Option (Proposal D × D)) → b ≡ Some (p, d) → r.slot.held ≡ Some p
          → option_map_or (holds_binding same elect x v r) b true ≡ true → IsGaplessFrom x v some p.parent
      by_binding r None none holds is = absurd (false≢true (ap is_some none))
      by_binding r (Some b) here holds is =
          let one : b ≡ (p, d) = ap (λ o. unwrap_or o (p, d)) here in
          stands r r.slot.held holds (subst (λ (c : Proposal D × D). holds_binding same elect x v r c ≡ true) one is)

      by_round : (o : Option (RoundFacts K D)) → round_at x v ≡ o
          → option_map_or (λ r. option_map_or (holds_binding same elect x v r) r.binding true) o true ≡ true
          → (unwrap_or o (new_round x.me x.members (round_number x v))).slot.held ≡ Some p
          → (unwrap_or o (new_round x.me x.members (round_number x v))).binding ≡ Some (p, d)
          → IsGaplessFrom x v some p.parent
      by_round None none is holds bound = absurd (false≢true (ap is_some holds))
      by_round (Some r) there is holds bound = by_binding r r.binding bound holds is
