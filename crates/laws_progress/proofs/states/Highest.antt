-- The highest explicit view, where none above a parent is explicit.
use Rattle.std.proofs.Common.{◌≡◌, refl, ap, sym, ◌∙◌, subst, inl, inr, ℕ, ◌<◌, Bool, true, false, cond, nat_lt, List, [], ◌∷◌, Option, Some, None, is_some, arith}
use Rattle.std.specs.Prelude.{T, option_and_then}
use Rattle.std.specs.List.{filter_map, cons_option, last_or}
use Rattle.std.specs.Ordering.{nat_cmp}
use Rattle.std.specs.FinMap.Entries.{find, is_sorted}
use Rattle.std.proofs.lemmas.Bool.{cases_eq, cases_lt, ne_eqb, lt-ltb, false≢true}
use Rattle.simplex_view_maps.proofs.Maps.{is_eq-nat_cmp}
use Rattle.simplex_view_maps.proofs.RisingEntries.{AllAbove, Rises, rises}
use Rattle.simplex_round.specs.Round.{RoundFacts}
use Rattle.simplex_voter.specs.Facts.{StateFacts}
use Rattle.simplex_voter.specs.Parents.{at_view, explicit_below, highest_explicit}
use Rattle.simplex_voter.specs.Payloads.{certified_payload, explicit_ancestry_payload}
use Rattle.laws_history.proofs.UnchangedHistories.{from_T}
use Rattle.laws_progress.proofs.states.BeforeTermStart.{explicit_by}

module _ {K L D : Type 0} (x : StateFacts K L D) (p v : ℕ) (d : D) (low : p < v)
    (here : explicit_ancestry_payload x p ≡ Some d)
    (none : (w : ℕ) → p < w → explicit_ancestry_payload x w ≡ None) where
  abbrev gives : ℕ × RoundFacts K D → Option (ℕ × D)
  gives = explicit_below x v

  nothing_above : (e : ℕ × RoundFacts K D) → p < e.0 → gives e ≡ None
  nothing_above e up = by_test (nat_lt e.0 v)
    where
      by_test : (b : Bool) → cond b (at_view e.0 (explicit_ancestry_payload x e.0)) None ≡ None
      by_test true = rw (none e.0 up) refl
      by_test false = refl

  gives_it : (e : ℕ × RoundFacts K D) → e.0 ≡ p → gives e ≡ Some (p, d)
  gives_it e at = rw (at, lt-ltb p v low, here) refl

  -- all above give nothing
  last_kept : (o : Option (ℕ × D)) (es : List (ℕ × RoundFacts K D)) → AllAbove p es
      → last_or o (filter_map gives es) ≡ o
  last_kept o [] above = refl
  last_kept o (e ∷ es) above = rw (nothing_above e above.0) (last_kept o es above.1)

  -- the parent is the last that gives something
  last_found : (o : Option (ℕ × D)) (es : List (ℕ × RoundFacts K D)) → Rises es → is_some (find nat_cmp p es) ≡ true
      → last_or o (filter_map gives es) ≡ Some (p, d)
  last_found o [] rise is = absurd (false≢true is)
  last_found o (e ∷ es) rise is = elim (cases_eq p e.0) [
    | inl at ↦ rw (gives_it e (sym at)) (last_kept (Some (p, d)) es (subst (λ n. AllAbove n es) (sym at) rise.0))
    | inr apart ↦
        (let behind : is_some (find nat_cmp p es) ≡ true =
        sym (ap (λ b. is_some (cond b (Some e.1) (find nat_cmp p es))) (is_eq-nat_cmp p e.0 ∙ ne_eqb p e.0 apart))
        ∙ is in
        by_value (λ q. last_found q es rise.1 behind) (gives e))
  ]
    where
      by_value : ((q : Option (ℕ × D)) → last_or q (filter_map gives es) ≡ Some (p, d)) → (q : Option (ℕ × D))
          → last_or o (cons_option q (filter_map gives es)) ≡ Some (p, d)
      by_value rest None = rest o
      by_value rest (Some a) = rest (Some a)

  -- genesis, where all tracked views lie above it or are it
  last_first : (o : Option (ℕ × D)) → o ≡ Some (p, d) → p ≡ 0 → (es : List (ℕ × RoundFacts K D))
      → last_or o (filter_map gives es) ≡ Some (p, d)
  last_first o is zero_is [] = is
  last_first o is zero_is (e ∷ es) = elim (cases_lt p e.0) [
    | inl up ↦ rw (nothing_above e up) (last_first o is zero_is es)
    | inr down ↦ rw (gives_it e (omega (arith, down, zero_is))) (last_first (Some (p, d)) refl zero_is es)
  ]

  pub highest_at : T (is_sorted nat_cmp x.rounds) → highest_explicit x v ≡ Some (p, d)
  unfolding explicit_ancestry_payload
  highest_at ordered = elim (cases_eq p 0) [
    | inl genesis ↦ last_first (at_view 0 x.genesis) (by_genesis genesis) genesis x.rounds
    | inr higher ↦ last_found (at_view 0 x.genesis) x.rounds
        (rises x.rounds (from_T (is_sorted nat_cmp x.rounds) ordered)) (tracked (omega (arith, higher)))
  ]
    where
      by_genesis : p ≡ 0 → at_view 0 x.genesis ≡ Some (p, d)
      by_genesis is =
          let payload : x.genesis ≡ Some d = subst (λ n. explicit_ancestry_payload x n ≡ Some d) is here in
          rw (payload, is) refl

      tracked : 0 < p → is_some (find nat_cmp p x.rounds) ≡ true
      tracked some = by_round (find nat_cmp p x.rounds) (sym (explicit_by x p some) ∙ here)
        where
          by_round : (o : Option (RoundFacts K D)) → option_and_then certified_payload o ≡ Some d → is_some o ≡ true
          by_round None is = absurd (false≢true (ap is_some is))
          by_round (Some r) is = refl
