-- What the rules of votes say of the parent of the proposal, by what the state knows.
use Rattle.std.proofs.Common.{◌≡◌, refl, ap, sym, ◌∙◌, subst, ℕ, ◌+◌, ◌-◌, ◌<◌, ◌⊎◌, inl, inr, Bool, true, false, ◌&&◌, ◌||◌, ◌==◌, not, nat_lt, nat_le, if◌then◌else◌, List, [], ◌∷◌, Option, Some, None, is_some, unwrap_or, arith}
use Rattle.std.specs.Prelude.{option_and_then, max}
use Rattle.std.specs.List.{filter_map, cons_option, last_or}
use Rattle.std.specs.Option.{option_map_or}
use Rattle.std.proofs.lemmas.Bool.{false≢true, true≢false, eqb-true, eq-eqb}
use Rattle.std.proofs.lemmas.Bool.Decides.{nat_tests}
use Rattle.simplex_types.specs.Proposal.{same_proposal}
use Rattle.simplex_types.specs.Terms.{term_start}
use Rattle.simplex_types.specs.declared.types.messages.Proposal.{Proposal}
use Rattle.simplex_round.specs.Round.{RoundFacts, new_round}
use Rattle.simplex_round.specs.Slot.{is_unequivocated}
use Rattle.simplex_voter.specs.Facts.{StateFacts, Elect, round_at, round_of, round_number}
use Rattle.simplex_voter.specs.Gaps.{is_gapless, is_covered}
use Rattle.simplex_voter.specs.Windows.{is_term_start, is_admitted, is_open, in_issuance_window}
use Rattle.simplex_voter.specs.Payloads.{explicit_ancestry_payload, optimistic_ancestry_payload, is_elected_early, is_handoff_parent}
use Rattle.simplex_voter.specs.Parents.{at_view, has_valid_parent_span, ancestry_payload_for_child, parent_payload_for, explicit_below, highest_explicit, preferred_at_start, find_parent, handoff, is_payload, is_parent, leads, holds_binding, verification_matches}
use Rattle.simplex_voter.specs.Rules.{NotarizeRule, FinalizeRule, was_handed_over, required_certification_parent, explicit_parent_ready}
use Rattle.simplex_voter.proofs.Gaps.{and_parts, not_true}
use Rattle.simplex_member.specs.OutstandingWork.{OutstandingWork}
use Rattle.laws_safety.specs.ExactVotes.{proposal_at}
use Rattle.laws_safety.specs.Traces.{TraceEvent}
use Rattle.laws_safety.proofs.votes.NotarizeVotes.{tracked_held}
use Rattle.laws_safety.proofs.votes.NotarizeVotesShown.{NotesStand}

either : (a b : Bool) → (a || b) ≡ true → (a ≡ true) ⊎ (b ≡ true)
either true b is = inl refl
either false b is = inr is

view_with : {D : Type 0} (v : ℕ) (o : Option D) (e : ℕ × D) → at_view v o ≡ Some e → (e.0 ≡ v) × (is_some o ≡ true)
view_with v None e is = absurd (false≢true (ap is_some is))
view_with {D} v (Some d) e is =
    let same_entry : ◌≡◌ {A = ℕ × D} (v, d) e = ap (λ o. unwrap_or o e) is in
    (sym (ap (λ (f : ℕ × D). f.0) same_entry), refl)

payload_some : {D : Type 0} (same : D → D → Bool) (o : Option D) (d : D) → is_payload same o d ≡ true → is_some o ≡ true
payload_some same None d is = absurd (false≢true is)
payload_some same (Some e) d is = refl

admitted_above : {K L D : Type 0} (x : StateFacts K L D) (v : ℕ) → is_admitted x v ≡ true → 0 < v
unfolding is_admitted
admitted_above x v is = grind (arith, nat_tests)

-- a view in its window starts no term
window_inside : {K L D : Type 0} (x : StateFacts K L D) (v : ℕ) → in_issuance_window x v ≡ true
    → is_term_start x v ≡ false
unfolding in_issuance_window
window_inside x v is = by_start (v == term_start x.terms.term_length v) is
  where
    by_zero : (z : Bool) → is_open x v (if z || true || (x.terms.optimistic_views == 0) then None else Some
        (max (term_start x.terms.term_length v - 1) (v - 1 - x.terms.optimistic_views))) ≡ true → ⊥
    by_zero true is = false≢true is
    by_zero false is = false≢true is

    by_start : (b : Bool) → is_open x v (if (v == 0) || b || (x.terms.optimistic_views == 0) then None else Some
        (max (term_start x.terms.term_length v - 1) (v - 1 - x.terms.optimistic_views))) ≡ true → b ≡ false
    by_start true is = absurd (by_zero (v == 0) is)
    by_start false is = refl

-- where none is voted for ahead there is none
pub no_window : {K L D : Type 0} (x : StateFacts K L D) (v : ℕ) → x.terms.optimistic_views ≡ 0
    → in_issuance_window x v ≡ false
unfolding in_issuance_window
no_window x v none = by_tests (v == 0) (v == term_start x.terms.term_length v) (x.terms.optimistic_views == 0)
    (eq-eqb x.terms.optimistic_views 0 none)
  where
    by_tests : (z s o : Bool) → o ≡ true → is_open x v
        (if z || s || o then None else Some
        (max (term_start x.terms.term_length v - 1) (v - 1 - x.terms.optimistic_views))) ≡ false
    by_tests true s o is = refl
    by_tests false true o is = refl
    by_tests false false true is = refl
    by_tests false false false is = absurd (false≢true is)

module _ {K L D : Type 0} (elect : Elect L) (x : StateFacts K L D) (v : ℕ) where
  -- the view has an explicit payload
  abbrev pub IsExplicit : ℕ → Type 0
  IsExplicit u = is_some (explicit_ancestry_payload x u) ≡ true

  -- the parent is the view before, in the window or where this member leads early
  abbrev pub IsAhead : ℕ → Type 0
  IsAhead u = (u + 1 ≡ v)
      × (((is_term_start x v ≡ false) × (in_issuance_window x v ≡ true)) ⊎ (is_elected_early elect x v ≡ true))

  -- the parent is explicit, or voted for ahead
  abbrev pub IsBuiltOn : ℕ → Type 0
  IsBuiltOn u = IsExplicit u ⊎ IsAhead u

  -- the highest explicit view below is explicit, or genesis

  abbrev IsGood : ℕ × D → Type 0
  IsGood f = (f.0 ≡ 0) ⊎ IsExplicit f.0

  entry_good : (e : ℕ × RoundFacts K D) (f : ℕ × D) → explicit_below x v e ≡ Some f → IsGood f
  entry_good e f is = by_test (nat_lt e.0 v) is
    where
      by_test : (b : Bool) → (if b then at_view e.0 (explicit_ancestry_payload x e.0) else None) ≡ Some f → IsGood f
      by_test true is =
          (let at = view_with e.0 (explicit_ancestry_payload x e.0) f is in inr (subst IsExplicit (sym at.0) at.1))
      by_test false is = absurd (false≢true (ap is_some is))

  last_good : (es : List (ℕ × RoundFacts K D)) (o : Option (ℕ × D)) → ((f : ℕ × D) → o ≡ Some f → IsGood f)
      → (f : ℕ × D) → last_or o (filter_map (explicit_below x v) es) ≡ Some f → IsGood f
  last_good [] o good f is = good f is
  last_good (e ∷ es) o good f is = elim (explicit_below x v e) as
      (λ found. explicit_below x v e ≡ found → last_or o (cons_option found (filter_map (explicit_below x v) es)) ≡ Some
      f → IsGood f) [
        | None ↦ λ none is. last_good es o good f is
        | Some b ↦ λ found is. last_good es (Some b) (λ c as_c. entry_good e c (found ∙ as_c)) f is
      ] refl is

  built_on : (u : ℕ) → 0 < u → (u ≡ 0) ⊎ IsExplicit u → IsBuiltOn u
  built_on u some (inl none) = absurd (omega (arith, some, none))
  built_on u some (inr is) = inl is

module _ {K L D : Type 0} (same : D → D → Bool) (elect : Elect L) (x : StateFacts K L D) (v : ℕ) where
  one_below : (u : ℕ) → (u + 1 == v || is_term_start x v) ≡ true → is_term_start x v ≡ false → u + 1 ≡ v
  one_below u span inside = elim (either (u + 1 == v) (is_term_start x v) span) [
    | inl at ↦ eqb-true (u + 1) v at
    | inr start ↦ absurd (true≢false (sym start ∙ inside))
  ]

  by_allowed : (u : ℕ) (d : D) → is_payload same (parent_payload_for same elect x v u) d ≡ true → IsBuiltOn elect x v u
  unfolding parent_payload_for has_valid_parent_span ancestry_payload_for_child
  by_allowed u d is = by_test (has_valid_parent_span x v u && is_gapless x u v) refl is
    where
      by_window : (u + 1 == v || is_term_start x v) ≡ true → (b : Bool) → in_issuance_window x v ≡ b
          → is_payload same (if b then optimistic_ancestry_payload same elect x u else explicit_ancestry_payload x u)
          d ≡ true → IsBuiltOn elect x v u
      by_window span true inside found =
          (let within = window_inside x v inside in inr (one_below u span within, inl (within, inside)))
      by_window span false outside found = inl (payload_some same (explicit_ancestry_payload x u) d found)

      by_test : (b : Bool) → (has_valid_parent_span x v u && is_gapless x u v) ≡ b
          → is_payload same (if b then ancestry_payload_for_child same elect x v u else None) d ≡ true
          → IsBuiltOn elect x v u
      by_test true met found =
          let a = and_parts (has_valid_parent_span x v u) (is_gapless x u v) met in
          let b = and_parts (nat_lt u v && nat_le x.finalized u) (u + 1 == v || is_term_start x v) a.0 in
          by_window b.1 (in_issuance_window x v) refl found
      by_test false met found = absurd (false≢true found)

  handed : 0 < v → (found : ℕ × D) → handoff same elect x (v - 1) ≡ Some found → IsBuiltOn elect x v found.0
  unfolding is_handoff_parent
  handed positive found is = by_test (is_handoff_parent elect x (v - 1)) refl is
    where
      before : v - 1 + 1 ≡ v
      before = omega (arith, positive)

      by_test : (b : Bool) → is_handoff_parent elect x (v - 1) ≡ b
          → (if b then at_view (v - 1) (optimistic_ancestry_payload same elect x (v - 1)) else None) ≡ Some found
          → IsBuiltOn elect x v found.0
      by_test true over is =
          let at = view_with (v - 1) (optimistic_ancestry_payload same elect x (v - 1)) found is in
          let early = (and_parts (is_elected_early elect x (v - 1 + 1)) (not (is_covered x (v - 1))) over).0 in
          inr (ap (λ n. n + 1) at.0 ∙ before, inr (subst (λ n. is_elected_early elect x n ≡ true) before early))
      by_test false over is = absurd (false≢true (ap is_some is))

  by_preferred : 0 < v → (found : ℕ × D) → 0 < found.0 → find_parent same elect x v ≡ Some found
      → IsBuiltOn elect x v found.0
  unfolding find_parent ancestry_payload_for_child
  by_preferred positive found some is = by_start (is_term_start x v) refl is
    where
      over : (o : Option (ℕ × D)) → highest_explicit x v ≡ o
          → option_and_then (λ top. if is_gapless x top.0 v then Some top else handoff same elect x (v - 1)) o ≡ Some
          found → IsBuiltOn elect x v found.0
      over None none e = absurd (false≢true (ap is_some e))
      over (Some top) there e = by_gap (is_gapless x top.0 v) e
        where
          by_gap : (b : Bool) → (if b then Some top else handoff same elect x (v - 1)) ≡ Some found
              → IsBuiltOn elect x v found.0
          by_gap true e' =
              let one : top ≡ found = ap (λ o. unwrap_or o found) e' in
              let good = last_good elect x v x.rounds (at_view 0 x.genesis) (λ f is. inl (view_with 0 x.genesis f is).0)
              top there in
              built_on elect x v found.0 some (subst (λ (k : ℕ × D). (k.0 ≡ 0) ⊎ IsExplicit elect x v k.0) one good)
          by_gap false e' = handed positive found e'

      by_start : (b : Bool) → is_term_start x v ≡ b
          → (if b then preferred_at_start same elect x v else at_view (v - 1)
          (ancestry_payload_for_child same elect x v (v - 1))) ≡ Some found → IsBuiltOn elect x v found.0
      by_start true start e = over (highest_explicit x v) refl e
      by_start false inside e = by_window (in_issuance_window x v) refl e
        where
          by_window : (w : Bool) → in_issuance_window x v ≡ w
              → at_view (v - 1) (if w then optimistic_ancestry_payload same elect x (v - 1)
              else explicit_ancestry_payload x (v - 1)) ≡ Some found → IsBuiltOn elect x v found.0
          by_window true within e' = (let at = view_with (v - 1) (optimistic_ancestry_payload same elect x (v - 1))
              found e' in inr (omega (arith, at.0, positive), inl (inside, within)))
          by_window false without e' = (let at = view_with (v - 1) (explicit_ancestry_payload x (v - 1)) found e' in
              inl (subst (λ u. IsExplicit elect x v u) (sym at.0) at.1))

  by_parent : 0 < v → (o : Option (ℕ × D)) → find_parent same elect x v ≡ o → (u : ℕ) (d : D) → 0 < u
      → is_parent same o u d ≡ true → IsBuiltOn elect x v u
  by_parent positive None none u d some is = absurd (false≢true is)
  by_parent positive (Some found) there u d some is =
      let first : found.0 ≡ u = eqb-true found.0 u (and_parts (found.0 == u) (same found.1 d) is).0 in
      subst (λ q. IsBuiltOn elect x v q) first (by_preferred positive found (omega (arith, first, some)) there)

  -- a bound proposal that matches
  bound_parent : 0 < v → verification_matches same elect x v ≡ true → (p : Proposal D) (d : D) → 0 < p.parent
      → (round_of x v).slot.held ≡ Some p → (round_of x v).binding ≡ Some (p, d) → IsBuiltOn elect x v p.parent
  unfolding verification_matches
  bound_parent positive matches p d some holds bound = by_round (round_at x v) refl matches holds bound
    where
      found : (r : RoundFacts K D) (q : Option (Proposal D)) → q ≡ Some p
          → option_map_or (λ h. same_proposal same h p
          && (is_payload same (parent_payload_for same elect x v h.parent) d
          || (leads x r && is_parent same (find_parent same elect x v) h.parent d))) q false ≡ true
          → IsBuiltOn elect x v p.parent
      found r None none is = absurd (false≢true is)
      found r (Some h) here is =
          let one : h ≡ p = ap (λ o. unwrap_or o p) here in
          let parts = and_parts (same_proposal same h p)
          (is_payload same (parent_payload_for same elect x v h.parent) d
          || (leads x r && is_parent same (find_parent same elect x v) h.parent d)) is in
          let named : h.parent ≡ p.parent = ap (λ (k : Proposal D). k.parent) one in
          subst (λ (k : Proposal D). IsBuiltOn elect x v k.parent) one (elim (either _ _ parts.1) [
            | inl allowed ↦ by_allowed h.parent d allowed
            | inr preferred ↦ by_parent positive (find_parent same elect x v) refl h.parent d
                (omega (arith, named, some)) (and_parts (leads x r) _ preferred).1
          ])

      by_binding : (r : RoundFacts K D) (b : Option (Proposal D × D)) → b ≡ Some (p, d) → r.slot.held ≡ Some p
          → option_map_or (holds_binding same elect x v r) b true ≡ true → IsBuiltOn elect x v p.parent
      by_binding r None none holds is = absurd (false≢true (ap is_some none))
      by_binding r (Some b) here holds is =
          let one : b ≡ (p, d) = ap (λ o. unwrap_or o (p, d)) here in
          found r r.slot.held holds (subst (λ (c : Proposal D × D). holds_binding same elect x v r c ≡ true) one is)

      by_round : (o : Option (RoundFacts K D)) → round_at x v ≡ o
          → option_map_or (λ r. option_map_or (holds_binding same elect x v r) r.binding true) o true ≡ true
          → (unwrap_or o (new_round x.me x.members (round_number x v))).slot.held ≡ Some p
          → (unwrap_or o (new_round x.me x.members (round_number x v))).binding ≡ Some (p, d)
          → IsBuiltOn elect x v p.parent
      by_round None none is holds bound = absurd (false≢true (ap is_some holds))
      by_round (Some r) there is holds bound = by_binding r r.binding bound holds is

  -- where the rule of votes to notarize holds, the parent is explicit or voted for ahead
  pub notarized_on : (base low : ℕ) (trace : List (TraceEvent D)) (o : OutstandingWork K D)
      → NotesStand base low trace o x → NotarizeRule same elect x v → (p : Proposal D) → proposal_at x v ≡ Some p
      → 0 < p.parent → (p.round.view ≡ v) × IsBuiltOn elect x v p.parent
  notarized_on base low trace o notes rule p holds some =
      let slot = and_parts (is_unequivocated (round_of x v).slot) (round_of x v).slot.verified rule.verified in
      let held = and_parts (is_some (round_of x v).slot.held) (not (round_of x v).slot.conflict) slot.0 in
      let over = notes.above v (tracked_held x v held.0) in
      let bound = (notes.tidy v over).bound slot.1 (not_true (round_of x v).slot.conflict held.1) rule.first_vote in
      let one : bound.0 ≡ p = ap (λ f. unwrap_or f p) (sym bound.2 ∙ holds) in
      let binding : (round_of x v).binding ≡ Some (p, bound.1) =
      subst (λ q. (round_of x v).binding ≡ Some (q, bound.1)) one bound.3 in
      (notes.placed v p holds, bound_parent (admitted_above x v rule.admitted) rule.bound p bound.1 some holds binding)

module _ {K L D : Type 0} (elect : Elect L) (x : StateFacts K L D) (v : ℕ) where
  -- where the rule of votes to finalize holds inside a term, the view before is explicit
  pub finalized_on : FinalizeRule elect x v → (p : Proposal D) → proposal_at x v ≡ Some p → is_term_start x v ≡ false
      → is_some (explicit_ancestry_payload x (v - 1)) ≡ true
  unfolding required_certification_parent
  finalized_on rule p holds inside = by_start (is_term_start x v) inside ready
    where
      ready : explicit_parent_ready elect x v p ≡ true
      ready = subst (λ o. option_map_or (explicit_parent_ready elect x v) o false ≡ true) holds rule.parent

      by_start : (b : Bool) → b ≡ false → option_map_or (λ q. is_some (explicit_ancestry_payload x q))
          (if b then (if p.parent + 1 == v && was_handed_over elect x v then Some p.parent else None) else Some (v - 1))
          true ≡ true → is_some (explicit_ancestry_payload x (v - 1)) ≡ true
      by_start true start is = absurd (true≢false start)
      by_start false within is = is
