-- A raised finalized view, as a change of a state's facts.
use Rattle.std.proofs.Common.{◌≡◌, ℕ, ◌+◌, ◌<◌, ◌≤◌, Bool, true, false, cond, ltb, leb, filter, List, Option, Some, None, refl, ap, sym, subst, ◌∙◌, inl, inr, arith}
use Rattle.std.specs.Prelude.{max, is_some, map as map_list, option_map}
use Rattle.std.specs.Ordering.{nat_cmp}
use Rattle.std.specs.FinMap as map
use Rattle.std.proofs.lemmas.Bool.Decides.{nat_tests}
use Rattle.std.proofs.lemmas.Bool.{cases_lt, lt-leb, le-leb, false≢true}
use Rattle.simplex_view_maps.specs.Tracked.{at_or_above}
use Rattle.simplex_round.specs.Round.{RoundFacts, token_of, after_abort}
use Rattle.simplex_voter.specs.Facts.{StateFacts}
use Rattle.simplex_voter.specs.Certification.{without_token, with_finalized_view}
use Rattle.simplex_voter.specs.Rounds.{RoundsFacts, find_round, IsRoundKept, AreKept, IsQuietBelow}
use Rattle.simplex_voter.specs.declared.voter.rounds.Bounds.{Bounds}
use Rattle.simplex_voter.proofs.Shown.{with_rounds}
use Rattle.simplex_voter.proofs.RoundsKept.{keys-kept}
use Rattle.simplex_voter.proofs.RoundChanges.{token_alike, none_after_abort}
use Rattle.simplex_voter.proofs.Changed.{some_is, alike_kept}
use Rattle.simplex_voter.proofs.Walked.{Walked, walk_begins, find-changed}

next_below : (v w : ℕ) → leb (v + 1) w ≡ ltb v w
next_below v w = grind (arith, nat_tests)

module _ {K L D : Type 0} where
  pub raised_shown : (x : StateFacts K L D) (n : map.FinMap nat_cmp (Unit {0})) (rounds : List (ℕ × RoundFacts K D))
      (v : ℕ) → x.named ≡ map.keys n → ltb x.finalized v ≡ true
      → rounds ≡ map_list (λ e. (e.0, cond (leb e.0 v) (without_token e.1) e.1)) x.rounds
      → record x { finalized = v; named = map.keys (at_or_above n (v + 1)); rounds = rounds } ≡ with_finalized_view x v
  raised_shown x n rounds v shown above is =
      let left = keys-kept n (v + 1) ∙ ap (filter (λ w. leb (v + 1) w)) (sym shown)
      ∙ (λ i. filter (λ w. next_below v w i) x.named) in
      rw above ((λ i. record x { finalized = v; named = left i; rounds = is i }))

  -- the same, where the fields show it
  pub raised_by : (y x : StateFacts K L D) → y ≡ x
      → (n new : map.FinMap nat_cmp (Unit {0})) (r t : RoundsFacts K D) (v next : ℕ) → y.named ≡ map.keys n
      → new ≡ at_or_above n next → next ≡ v + 1
      → r ≡ record t { by_view = map_list (λ e. (e.0, cond (leb e.0 v) (without_token e.1) e.1)) t.by_view }
      → with_rounds y t ≡ y → ltb y.finalized v ≡ true
      → record (with_rounds y r) { finalized = v; named = map.keys new } ≡ with_finalized_view y v
  raised_by y x is n new r t v next shown drops after ends stays above =
      ap (λ (s : RoundsFacts K D). record (with_rounds y s) { finalized = v; named = map.keys new }) ends
      ∙ ap (λ (z : StateFacts K L D). record z {
        finalized = v;
        named = map.keys new;
        rounds = map_list (λ e. (e.0, cond (leb e.0 v) (without_token e.1) e.1)) z.rounds;
      }) stays
      ∙ ap (λ (m : map.FinMap nat_cmp (Unit {0})).
      record y {
        finalized = v;
        named = map.keys m;
        rounds = map_list (λ e. (e.0, cond (leb e.0 v) (without_token e.1) e.1)) y.rounds;
      })
      (drops ∙ ap (at_or_above n) after)
      ∙ raised_shown y n _ v shown above refl

module _ {K D : Type 0} where
  none_to_end : (r : RoundFacts K D) → is_some (token_of r.certification) ≡ false → without_token r ≡ r
  none_to_end r none = rw none refl

  -- a walk that ends certifications may begin where none is under way below
  pub ends_begin : (m : map.FinMap nat_cmp (RoundFacts K D)) (from n : ℕ) → IsQuietBelow m from → n ≤ from
      → Walked m m without_token n
  ends_begin m from n quiet within = walk_begins m without_token n
      (λ q r found below. none_to_end r (quiet q r found (omega (arith, below, within))))

  none_under_way : (r : RoundFacts K D) → is_some (token_of (without_token r).certification) ≡ false
  none_under_way r = by_test (is_some (token_of r.certification)) refl
    where
      by_test : (b : Bool) → is_some (token_of r.certification) ≡ b
          → is_some (token_of (cond b (record r { certification = after_abort r.certification }) r).certification)
          ≡ false
      by_test true is = none_after_abort r.certification
      by_test false is = is

-- where certifications at or below a view end, none is under way there
pub ended_kept : {K D : Type 0} {h : Bounds} (x : RoundsFacts K D) (v : ℕ) (es : List (ℕ × RoundFacts K D))
    (after : Bounds) → after ≡ record h { under_way = max h.under_way (v + 1) }
    → es ≡ map_list (λ e. (e.0, cond (leb e.0 v) (without_token e.1) e.1)) x.by_view → AreKept h x
    → AreKept after (record x { by_view = es })
ended_kept {K} {D} {h} x v es after is' is kept =
    rw is' (subst (λ (fs : List (ℕ × RoundFacts K D)). AreKept ended (record x { by_view = fs })) (sym is)
    (λ q r found. by_value q (find_round x q) refl r
    (sym (find-changed (λ u (s : RoundFacts K D). cond (leb u v) (without_token s) s) q x.by_view) ∙ found)))
  where
    ended : Bounds
    ended = record h { under_way = max h.under_way (v + 1) }

    changed : RoundsFacts K D
    changed = record x { by_view = map_list (λ e. (e.0, cond (leb e.0 v) (without_token e.1) e.1)) x.by_view }

    at_or_below : (q : ℕ) (s : RoundFacts K D) → IsRoundKept h x q s → IsRoundKept ended changed q (without_token s)
    at_or_below q s was =
        let k = alike_kept x q s (without_token s) was (token_alike s) in
        record {
          me = k.me;
          members = k.members;
          round = k.round;
          in_range = k.in_range;
          notarized = k.notarized;
          leader = k.leader;
          explicit = k.explicit;
          under_way = λ is. absurd (false≢true (sym (none_under_way s) ∙ is));
          refused = k.refused;
        }

    above : (q : ℕ) (s : RoundFacts K D) → v < q → IsRoundKept h x q s → IsRoundKept ended changed q s
    above q s higher k = record {
      me = k.me;
      members = k.members;
      round = k.round;
      in_range = k.in_range;
      notarized = k.notarized;
      leader = k.leader;
      explicit = k.explicit;
      under_way = λ is. let low = k.under_way is in
          grind (arith, low, higher);
      refused = k.refused;
    }

    by_test : (q : ℕ) (s : RoundFacts K D) → IsRoundKept h x q s
        → IsRoundKept ended changed q (cond (leb q v) (without_token s) s)
    by_test q s k = elim (cases_lt v q) [
      | inl higher ↦ rw (lt-leb q v higher) (above q s higher k)
      | inr lower ↦ rw (le-leb q v lower) (at_or_below q s k)
    ]

    by_value : (q : ℕ) (s : Option (RoundFacts K D)) → find_round x q ≡ s → (r : RoundFacts K D)
        → option_map (λ (t : RoundFacts K D). cond (leb q v) (without_token t) t) s ≡ Some r
        → IsRoundKept ended changed q r
    by_value q None is r e = let bad : None ≡ Some r = e in cc
    by_value q (Some s) is r e = rw (← some_is _ r e) (by_test q s (kept q s is))
