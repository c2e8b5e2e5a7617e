-- Which parents are allowed or preferred, and how the rules of votes come apart.
use Rattle.std.proofs.Common.{◌≡◌, ◌⊎◌, ℕ, ◌+◌, ◌-◌, ◌<◌, ◌≤◌, Bool, true, false, ◌&&◌, ◌||◌, ltb, leb, eqb, cond, List, [], ◌∷◌, Option, Some, None, refl, ap, sym, subst, ◌∙◌, inl, inr, arith, eq-eqb, T}
use Rattle.std.specs.Prelude.{is_some, is_none, option_and_then, unwrap_or, ◌==◌}
use Rattle.std.specs.List.{filter_map, last_or, cons_option}
use Rattle.std.specs.Ordering.{nat_cmp}
use Rattle.std.specs.FinMap.Entries.{find}
use Rattle.std.proofs.lemmas.Bool.{cases_lt, eqb-true, false≢true, lt-ltb, le-leb}
use Rattle.std.proofs.lemmas.Bool.Decides.{nat_tests}
use Rattle.simplex_view_maps.proofs.Maps.{is_eq-nat_cmp}
use Rattle.simplex_view_maps.proofs.RisingEntries.{AllAbove, Rises, rises}
use Rattle.simplex_types.specs.Window.{issuance_floor}
use Rattle.simplex_round.specs.Round.{RoundFacts}
use Rattle.simplex_voter.specs.Facts.{StateFacts, Elect}
use Rattle.simplex_voter.specs.Windows.{is_term_start, in_issuance_window, is_open}
use Rattle.simplex_voter.specs.Gaps.{is_gapless, first_unnullified_view}
use Rattle.simplex_voter.specs.Payloads.{explicit_ancestry_payload, optimistic_ancestry_payload, is_handoff_parent}
use Rattle.simplex_voter.specs.Parents.{at_view, has_valid_parent_span, explicit_below, highest_explicit, ancestry_payload_for_child, parent_payload_for, handoff, find_parent, IsAllowedParent}
use Rattle.laws_voter.specs.Laws.{StandsBelow, IsHandedOff, KnowsFinalized}
use Rattle.simplex_voter.proofs.Gaps.{cases_bool, and_parts, and_both, or_right, no_room}

true_or : (b c : Bool) → (b || c) ≡ true → c ≡ false → b ≡ true
true_or true c h n = refl
true_or false c h n = absurd (false≢true (sym n ∙ h))

or_middle : (b c : Bool) → (b || true || c) ≡ true
or_middle true c = refl
or_middle false c = refl

guarded_some : {A : Type 0} (b : Bool) (o : Option A) (a : A) → cond b o None ≡ Some a → (b ≡ true) × (o ≡ Some a)
guarded_some true o a e = (refl, e)
guarded_some false o a e = absurd (false≢true (ap is_some e))

module _ {K L D : Type 0} (x : StateFacts K L D) where
  pub spans_parts : (v p : ℕ) → has_valid_parent_span x v p ≡ true
      → (p < v) × (x.finalized ≤ p) × ((p + 1 == v || is_term_start x v) ≡ true)
  unfolding has_valid_parent_span
  spans_parts v p h =
      let last = and_parts (ltb p v && leb x.finalized p) _ h in
      let first = and_parts (ltb p v) _ last.0 in
      (grind (arith, nat_tests), grind (arith, nat_tests), last.1)

  spans_both : (v p : ℕ) → p < v → x.finalized ≤ p → (p + 1 == v || is_term_start x v) ≡ true
      → has_valid_parent_span x v p ≡ true
  unfolding has_valid_parent_span
  spans_both v p low high one = and_both (ltb p v && leb x.finalized p) _
      (and_both (ltb p v) _ (lt-ltb p v low) (le-leb x.finalized p high)) one

  -- there is no gap just below
  gapless_before : (v p : ℕ) → p + 1 ≡ v → is_gapless x p v ≡ true
  unfolding first_unnullified_view
  gapless_before v p before = ap is_none (no_room x p v before)

  -- a term's start is in no window
  start_in_no_window : (v : ℕ) → is_term_start x v ≡ true → in_issuance_window x v ≡ false
  unfolding in_issuance_window
  start_in_no_window v start = ap (is_open x v) (no_floor v start)
    where
      no_floor : (v : ℕ) → is_term_start x v ≡ true
          → issuance_floor x.terms.term_length x.terms.optimistic_views v ≡ None
      no_floor v start = rw (start, or_middle (v == 0) (x.terms.optimistic_views == 0)) refl

module _ {K L D : Type 0} (same : D → D → Bool) (elect : Elect L) (x : StateFacts K L D) where
  pub allowed_stands : (v p : ℕ) (d : D) → IsAllowedParent same elect x v p d
      → StandsBelow x v p × (ancestry_payload_for_child same elect x v p ≡ Some d)
  unfolding parent_payload_for
  allowed_stands v p d allowed =
      let found = guarded_some (has_valid_parent_span x v p && is_gapless x p v) _ d allowed in
      let parts = and_parts (has_valid_parent_span x v p) _ found.0 in
      let span = spans_parts x v p parts.0 in (
        record {
          at_least_finalized = span.1;
          below = span.0;
          just_below = λ inside. eqb-true (p + 1) v (true_or _ _ span.2 inside);
          gapless = parts.1;
        },
        found.1,
      )

  one_step : (v p : ℕ) → (is_term_start x v ≡ false → p + 1 ≡ v) → (p + 1 == v || is_term_start x v) ≡ true
  one_step v p inside = elim (cases_bool (is_term_start x v)) [
    | inl start ↦ or_right (p + 1 == v) _ start
    | inr within ↦ rw (eq-eqb (p + 1) v (inside within)) refl
  ]

  pub standing_allowed : (v p : ℕ) (d : D) → StandsBelow x v p → ancestry_payload_for_child same elect x v p ≡ Some d
      → IsAllowedParent same elect x v p d
  unfolding parent_payload_for
  standing_allowed v p d stands payload =
      let span : has_valid_parent_span x v p ≡ true =
      spans_both x v p stands.below stands.at_least_finalized (one_step v p stands.just_below) in
      rw (span, stands.gapless) payload

  -- an explicit view below, with its payload
  Explicit : ℕ → ℕ × D → Type 0
  Explicit v e = (e.0 < v) × (explicit_ancestry_payload x e.0 ≡ Some e.1)

  view_with : (v : ℕ) (o : Option D) (e : ℕ × D) → at_view v o ≡ Some e → (e.0 ≡ v) × (o ≡ Some e.1)
  view_with v None e is = absurd (false≢true (ap is_some is))
  view_with v (Some d) e is =
      let same_entry : ◌≡◌ {A = ℕ × D} (v, d) e = ap (λ o. unwrap_or o e) is in
      (sym (ap (λ (f : ℕ × D). f.0) same_entry), ap (λ (f : ℕ × D). Some f.1) same_entry)

  explicit_entry : (v : ℕ) (a : ℕ × RoundFacts K D) (e : ℕ × D) → explicit_below x v a ≡ Some e
      → (e.0 ≡ a.0) × Explicit v e
  unfolding Explicit
  explicit_entry v a e is =
      let found = guarded_some (ltb a.0 v) _ e is in
      let entry = view_with a.0 (explicit_ancestry_payload x a.0) e found.1 in
      let below : a.0 < v = grind (arith, nat_tests) in
      (entry.0, (omega arith, ap (explicit_ancestry_payload x) entry.0 ∙ entry.1))

  same_some : (a b : ℕ × D) → Some a ≡ Some b → a ≡ b
  same_some a b e = ap (λ o. unwrap_or o a) e

  last_explicit : (v : ℕ) (es : List (ℕ × RoundFacts K D)) (start : Option (ℕ × D))
      → ((e : ℕ × D) → start ≡ Some e → Explicit v e) → (e : ℕ × D)
      → last_or start (filter_map (explicit_below x v) es) ≡ Some e → Explicit v e
  last_explicit v [] start from e is = from e is
  last_explicit v (a ∷ es) start from e is =
      elim (explicit_below x v a) as (λ o. explicit_below x v a ≡ o
      → last_or start (cons_option o (filter_map (explicit_below x v) es)) ≡ Some e → Explicit v e) [
        | None ↦ λ none is. last_explicit v es start from e is
        | Some b ↦ λ found is. last_explicit v es (Some b)
            (λ c as_c. subst (Explicit v) (same_some b c as_c) (explicit_entry v a b found).1) e is
      ] refl is

  -- after a view whose entry was found, the last one found is not below it
  last_above : (v m : ℕ) (es : List (ℕ × RoundFacts K D)) (start : Option (ℕ × D)) → AllAbove m es
      → ((e : ℕ × D) → start ≡ Some e → m ≤ e.0) → (e : ℕ × D)
      → last_or start (filter_map (explicit_below x v) es) ≡ Some e → m ≤ e.0
  last_above v m [] start above from e is = from e is
  last_above v m (a ∷ es) start above from e is =
      elim (explicit_below x v a) as (λ o. explicit_below x v a ≡ o
      → last_or start (cons_option o (filter_map (explicit_below x v) es)) ≡ Some e → m ≤ e.0) [
        | None ↦ λ none is. last_above v m es start above.1 from e is
        | Some b ↦ λ found is. last_above v m es (Some b) above.1 (λ c as_c.
            let higher : m < a.0 = above.0 in
            let at : b.0 ≡ a.0 = (explicit_entry v a b found).0 in
            let same_view : b.0 ≡ c.0 = ap (λ (f : ℕ × D). f.0) (same_some b c as_c) in
            omega arith) e is
      ] refl is

  last_not_below : (v m : ℕ) (es : List (ℕ × RoundFacts K D)) (start : Option (ℕ × D)) → Rises es
      → is_some (find nat_cmp m es) ≡ true → m < v → (d : D) → explicit_ancestry_payload x m ≡ Some d → (e : ℕ × D)
      → last_or start (filter_map (explicit_below x v) es) ≡ Some e → m ≤ e.0
  last_not_below v m [] start rise here low d payload e is = absurd (false≢true here)
  last_not_below v m (a ∷ es) start rise here low d payload e is = elim (cases_bool (eqb m a.0)) [
    | inl same_view ↦
        let at : m ≡ a.0 = eqb-true m a.0 same_view in
        let below : ltb a.0 v ≡ true = lt-ltb a.0 v (omega arith) in
        let entry : explicit_below x v a ≡ Some (a.0, d) = rw (below, ← at, payload) refl in
        last_above v m es (Some (a.0, d)) (subst (λ n. AllAbove n es) (sym at) rise.0) (λ c as_c.
        let same_start : a.0 ≡ c.0 = ap (λ (f : ℕ × D). f.0) (same_some (a.0, d) c as_c) in
        omega arith) e (rw entry at is)
    | inr other ↦ elim (explicit_below x v a) as
        (λ o. last_or start (cons_option o (filter_map (explicit_below x v) es)) ≡ Some e → m ≤ e.0) [
          | None ↦ λ is. last_not_below v m es start rise.1 (rw (is_eq-nat_cmp m a.0, other) at here) low d payload e is
          | Some b ↦ λ is. last_not_below v m es (Some b) rise.1 (rw (is_eq-nat_cmp m a.0, other) at here) low d payload
              e
              is
        ] is
  ]

  some_payload : (o : Option D) → is_some o ≡ true → (d : D) × (o ≡ Some d)
  some_payload None h = absurd (false≢true h)
  some_payload (Some d) h = (d, refl)

  true_from_T : (b : Bool) → b ≡ true → T b
  true_from_T b e = subst T (sym e) tt

  genesis_explicit : (v : ℕ) → 0 < v → (e : ℕ × D) → at_view 0 x.genesis ≡ Some e → Explicit v e
  unfolding Explicit explicit_ancestry_payload
  genesis_explicit v some e is =
      let entry = view_with 0 x.genesis e is in
      (omega arith, rw entry.0 entry.1)

  -- the highest explicit view is not under the last finalized one
  highest_stands : (v : ℕ) → KnowsFinalized x → x.finalized < v → (e : ℕ × D) → highest_explicit x v ≡ Some e
      → x.finalized ≤ e.0
  highest_stands v knows low e is = elim (cases_lt 0 x.finalized) [
    | inr none ↦ omega arith
    | inl some ↦
        let payload = some_payload _ (knows.certified some) in
        last_not_below v x.finalized x.rounds (at_view 0 x.genesis) (rises x.rounds knows.in_order) (knows.known some)
        low payload.0 payload.1 e is
  ]

  explicit_allowed : (v : ℕ) (e : ℕ × D) → is_term_start x v ≡ true → Explicit v e → x.finalized ≤ e.0
      → is_gapless x e.0 v ≡ true → IsAllowedParent same elect x v e.0 e.1
  unfolding Explicit ancestry_payload_for_child
  explicit_allowed v e start explicit high gapless =
      standing_allowed v e.0 e.1
      (record {
        at_least_finalized = high;
        below = explicit.0;
        just_below = λ inside. absurd (false≢true (sym inside ∙ start));
        gapless = gapless;
      })
      (rw (start_in_no_window x v start) explicit.1)

  handed_off : (v p : ℕ) (d : D) → 0 < v → handoff same elect x (v - 1) ≡ Some (p, d) → IsHandedOff same elect x v p d
  handed_off v p d some is =
      let found = guarded_some (is_handoff_parent elect x (v - 1)) _ (p, d) is in
      let entry = view_with (v - 1) (optimistic_ancestry_payload same elect x (v - 1)) (p, d) found.1 in
      record {
        just_below = omega arith;
        handoff = ap (is_handoff_parent elect x) entry.0 ∙ found.0;
        offered = ap (optimistic_ancestry_payload same elect x) entry.0 ∙ entry.1;
      }

  preferred_from : (v p : ℕ) (d : D) (o : Option (ℕ × D)) → highest_explicit x v ≡ o → KnowsFinalized x
      → x.finalized < v → is_term_start x v ≡ true
      → option_and_then (λ found. cond (is_gapless x found.0 v) (Some found) (handoff same elect x (v - 1))) o ≡ Some
      (p, d) → IsAllowedParent same elect x v p d ⊎ IsHandedOff same elect x v p d
  preferred_from v p d None is knows low start e = absurd (false≢true (ap is_some e))
  preferred_from v p d (Some found) is knows low start e = elim (cases_bool (is_gapless x found.0 v)) [
    | inl gapless ↦
        let same_entry : ◌≡◌ {A = ℕ × D} found (p, d) = same_some found (p, d) (rw gapless at e) in
        let explicit : Explicit v found = last_explicit v x.rounds (at_view 0 x.genesis)
        (genesis_explicit v (omega arith)) found is in
        inl (subst (λ (f : ℕ × D). IsAllowedParent same elect x v f.0 f.1) same_entry
        (explicit_allowed v found start explicit (highest_stands v knows low found is) gapless))
    | inr gap ↦ inr (handed_off v p d (omega arith) (rw gap at e))
  ]

  pub preferred_stands : (v p : ℕ) (d : D) → KnowsFinalized x → x.finalized < v
      → find_parent same elect x v ≡ Some (p, d) → IsAllowedParent same elect x v p d ⊎ IsHandedOff same elect x v p d
  unfolding find_parent
  preferred_stands v p d knows low e = elim (cases_bool (is_term_start x v)) [
    | inl start ↦ preferred_from v p d (highest_explicit x v) refl knows low start (rw start at e)
    | inr inside ↦
        let entry = view_with (v - 1) (ancestry_payload_for_child same elect x v (v - 1)) (p, d) (rw inside at e) in
        let before : p + 1 ≡ v = omega arith in
        inl (standing_allowed v p d
        (record {
          at_least_finalized = omega arith;
          below = omega arith;
          just_below = λ _. before;
          gapless = gapless_before x v p before;
        })
        (ap (ancestry_payload_for_child same elect x v) entry.0 ∙ entry.1))
  ]
