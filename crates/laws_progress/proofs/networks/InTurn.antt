-- Of f leaders in turn and one more, one is honest.
use Rattle.std.proofs.Common.{◌≡◌, ap, sym, ◌∙◌, subst, ◌⊎◌, inl, inr, ℕ, zero, suc, ◌+◌, ◌-◌, ◌%◌, ◌<◌, ◌≤◌, Bool, true, List, [], ◌∷◌, length, slice_get, Some, arith}
use Rattle.std.proofs.Math.Nat.{mod-lt, mod-add-mod, mod-eq_of_lt, add-mod_right}
use Rattle.std.proofs.lemmas.Bool.{cases_eq, cases_lt}
use Rattle.simplex_types.specs.Terms.{term_index, term_start, next_term_start}
use Rattle.simplex_view_maps.proofs.Gaps.{next_above, next_start}
use Rattle.simplex_voter.specs.Facts.{Elect}
use Rattle.laws_safety.specs.Replicas.{Replica, Faulty, Honest, faults, max_faults}
use Rattle.laws_safety.specs.Executions.{Execution}
use Rattle.laws_safety.proofs.agreement.Quorums.{faults-cons}
use Rattle.laws_progress.specs.NotStuck.{MayContinue}
use Rattle.laws_progress.specs.MessageExchanges.{Exchanges, IsFinalizedInTurn}
use Rattle.laws_progress.specs.SharedView.{terms_on}
use Rattle.laws_progress.proofs.networks.Passed.{there}
use Rattle.laws_progress.proofs.networks.Soon.{index_on, index_up, starts_are_finalized_soon}
use Rattle.laws_progress.proofs.runs.Ends.{end_shown}
use Rattle.laws_progress.proofs.states.AbandonedTerms.{on_from}
use Rattle.laws_progress.proofs.states.SkippedViews.{small_under}

module _ {K L D : Type 0} where
  abbrev AreFaulty : List (Replica K L D) → ℕ → ℕ → Type 0
  AreFaulty network low high = (i : ℕ) → low ≤ i → i < high → slice_get network i ≡ Some Faulty

  -- this number in a row
  a_row : (network : List (Replica K L D)) (from len : ℕ) → from + len ≤ length network
      → AreFaulty network from (from + len) → len ≤ faults network
  a_row network from zero fits all = omega arith
  a_row [] from (suc len) fits all = absurd (omega (arith, fits))
  a_row (Honest s ∷ network) zero (suc len) fits all = absurd (let first = all 0 (omega arith) (omega arith) in cc)
  a_row (Faulty ∷ network) zero (suc len) fits all =
      let rest = a_row network 0 len (omega (arith, fits))
      (λ i low high. all (suc i) (omega arith) (omega (arith, high))) in
      omega (arith, rest, faults-cons Faulty network)
  a_row (p ∷ network) (suc from) (suc len) fits all =
      let rest = a_row network from (suc len) (omega (arith, fits))
      (λ i low high. all (suc i) (omega (arith, low)) (omega (arith, high))) in
      omega (arith, rest, faults-cons p network)

  -- some first ones, and all from a later one on
  both_ends : (network : List (Replica K L D)) (low from : ℕ) → low ≤ from → from ≤ length network
      → AreFaulty network 0 low → AreFaulty network from (length network)
      → low + (length network - from) ≤ faults network
  both_ends network zero from up fits first last =
      (let row = a_row network from (length network - from) (omega (arith, fits))
      (λ i up down. last i up (omega (arith, down, fits))) in omega (arith, row))
  both_ends [] (suc low) from up fits first last = absurd (omega (arith, up, fits))
  both_ends (p ∷ network) (suc low) zero up fits first last = absurd (omega (arith, up))
  both_ends (Honest s ∷ network) (suc low) (suc from) up fits first last =
      absurd (let here = first 0 (omega arith) (omega arith) in cc)
  both_ends (Faulty ∷ network) (suc low) (suc from) up fits first last =
      let rest = both_ends network low from (omega (arith, up)) (omega (arith, fits))
      (λ i up down. first (suc i) (omega arith) (omega (arith, down)))
      (λ i up down. last (suc i) (omega (arith, up)) (omega (arith, down))) in
      omega (arith, rest, faults-cons Faulty network)

  module _ (network : List (Replica K L D)) (some : 0 < length network) (b : ℕ) where
    abbrev HonestTurn : ℕ → Type 0
    HonestTurn count = (k : ℕ) × (k < count) × (s : Execution K L D)
        × (slice_get network ((b + k) % length network) ≡ Some (Honest s))

    abbrev FaultyTurns : ℕ → Type 0
    FaultyTurns count = (k : ℕ) → k < count → slice_get network ((b + k) % length network) ≡ Some Faulty

    -- an honest one is found, or there is none
    found : (count : ℕ) → HonestTurn count ⊎ FaultyTurns count
    found zero = inr (λ k less. absurd (omega (arith, less)))
    found (suc count) = elim (found count) [
      | inl (k, less, s, at) ↦ inl (k, omega (arith, less), s, at)
      | inr none ↦ (let here = there network ((b + count) % length network) (mod-lt (b + count) some) in
          by_replica none here.0 here.1)
    ]
      where
        by_replica : FaultyTurns count → (p : Replica K L D) → slice_get network ((b + count) % length network) ≡ Some p
            → HonestTurn (suc count) ⊎ FaultyTurns (suc count)
        by_replica none (Honest s) at = inl (count, omega arith, s, at)
        by_replica none Faulty at = inr (λ k less. elim (cases_eq k count) [
          | inl last ↦ subst (λ n. slice_get network ((b + n) % length network) ≡ Some Faulty) (sym last) at
          | inr apart ↦ none k (omega (arith, less, apart))
        ])

    abbrev first : ℕ
    first = b % length network

    -- whose turn it is
    turn_is : (k i : ℕ) → (first + k ≡ i) ⊎ (first + k ≡ i + length network) → i < length network
        → (b + k) % length network ≡ i
    turn_is k i (inl is) less = sym (mod-add-mod b (length network) k)
        ∙ (ap (λ z. z % length network) is ∙ mod-eq_of_lt less)
    turn_is k i (inr is) less = sym (mod-add-mod b (length network) k)
        ∙ (ap (λ z. z % length network) is ∙ (add-mod_right i (length network) ∙ mod-eq_of_lt less))

    pub honest_turn : faults network ≤ max_faults (length network) → HonestTurn (max_faults (length network) + 1)
    honest_turn few = elim (found (max_faults (length network) + 1)) [
      | inl one ↦ one
      | inr none ↦ absurd (too_many none (mod-lt b some))
    ]
      where
        too_many : FaultyTurns (max_faults (length network) + 1) → first < length network → ⊥
        too_many none low = elim (cases_lt (first + max_faults (length network)) (length network)) [
          | inl fits ↦ (let row = a_row network first (max_faults (length network) + 1) (omega (arith, fits))
              (λ i up down. subst (λ n. slice_get network n ≡ Some Faulty)
              (turn_is (i - first) i (inl (omega (arith, up))) (omega (arith, down, fits)))
              (none (i - first) (omega (arith, up, down)))) in omega (arith, row, few))
          | inr around ↦ (let ends = both_ends network (first + max_faults (length network) + 1 - length network) first
              (omega (arith, around, some)) (omega (arith, low))
              (λ i up down. subst (λ n. slice_get network n ≡ Some Faulty)
              (turn_is (i + length network - first) i (inr (omega (arith, low))) (omega (arith, down, around, low)))
              (none (i + length network - first) (omega (arith, down, around, low))))
              (λ i up down. subst (λ n. slice_get network n ≡ Some Faulty)
              (turn_is (i - first) i (inl (omega (arith, up))) down)
              (none (i - first) (omega (arith, up, down, around)))) in omega (arith, ends, few, around, low))
        ]

module _ (length : ℕ) (some : 0 < length) where
  start_on : (count view : ℕ) → 1 ≤ view → terms_on length (suc count) view ≡ term_start length
      (terms_on length (suc count) view)
  start_on zero view one = sym (next_start length view some one (next_above length view some one))
  start_on (suc count) view one = (let above = next_above length view some one in
      start_on count (next_term_start length view) (omega (arith, above)))

  -- further on is higher
  no_lower : (count total view : ℕ) → count ≤ total → 1 ≤ view → terms_on length count view ≤ terms_on length total view
  no_lower zero total view up one = on_from length some total view one
  no_lower (suc count) zero view up one = absurd (omega (arith, up))
  no_lower (suc count) (suc total) view up one =
      (let above = next_above length view some one in
      no_lower count total (next_term_start length view) (omega (arith, up)) (omega (arith, above)))

pub finalized_in_turn : {L D : Type 0} (K : Type 0) (same : D → D → Bool)
    (decides : (d e : D) → same d e ≡ true → d ≡ e) (reflexive : (d : D) → same d d ≡ true) (elect : Elect L)
    → IsFinalizedInTurn K same elect
finalized_in_turn K same decides reflexive elect term_length epoch view turn skipped elector network q good members few
    (i, s, at, high) each agree leads small =
    let alive = each i s at in
    let ran = good.honest i s at in
    let length_some = ran.lives.first.terms.some in
    let shown = end_shown same decides elect term_length i s ran alive.0 alive.1 in
    let one : 1 ≤ view = omega (arith, alive.2.1, shown.living.keeps.stays.ahead) in
    let b = term_index term_length view + 1 + skipped + turn in
    let found = honest_turn network members b few in
    let k = found.0 in
    let start = terms_on term_length (suc (skipped + k)) view in
    let index = index_on term_length length_some (suc (skipped + k)) view one in
    let next = next_above term_length view length_some one in
    let from_next = on_from term_length length_some (skipped + k) (next_term_start term_length view)
    (omega (arith, next)) in
    let may : MayContinue same elect term_length network epoch elector ((b + k) % length network) start = record {
      few_faulty = few;
      alive = λ j t is. (let a = each j t is in
          (a.0, a.1, (a.2.0, a.2.2 k (omega (arith, found.1)), omega (arith, a.2.1, next, from_next))));
      consistent = agree;
      is_term_start = start_on term_length length_some (skipped + k) view one;
      small = small_under start (terms_on term_length (suc (skipped + max_faults (length network))) view)
          (no_lower term_length length_some (suc (skipped + k)) (suc (skipped + max_faults (length network))) view
          (omega (arith, found.1)) one) small;
      elected = λ bytes. leads start bytes ∙ ap (λ n. n % length network) (omega (arith, index));
      honest_leader = (found.2, found.3);
    } in
    let soon = starts_are_finalized_soon K same decides reflexive elect term_length epoch ((b + k) % length network)
    start (skipped + max_faults (length network) + 1) elector network q good may (
      i,
      s,
      at,
      λ x lives. (let up = index_up term_length length_some view x.current (high x lives) in
          omega (arith, up, index, found.1)),
    ) in
    (soon.0, soon.1, start, subst (λ n. Exchanges n network soon.0) (omega arith) soon.2, soon.3)
