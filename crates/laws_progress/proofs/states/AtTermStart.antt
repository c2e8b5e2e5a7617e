-- What is known of a state that is at an untouched term start, and what leaves it so.
use Rattle.std.proofs.Common.{◌≡◌, refl, ap, ◌∙◌, subst, ℕ, zero, suc, ◌+◌, ◌-◌, ◌<◌, ◌≤◌, Bool, true, false, ◌&&◌, cond, nat_lt, if◌then◌else◌, List, [], Option, Some, None, arith}
use Rattle.std.specs.Prelude.{◌==◌, T, min}
use Rattle.std.specs.List.{fold, range_with_len}
use Rattle.std.specs.Option.{option_map_or}
use Rattle.std.specs.Ordering.{nat_cmp}
use Rattle.std.specs.BTreeSet.{insert_key}
use Rattle.std.specs.Cmp.{nat_cmp_total}
use Rattle.std.specs.FinMap.Entries.{find, put, find-put, is_sorted, is_sorted-put}
use Rattle.std.proofs.lemmas.Bool.{eq-eqb, ne_eqb, lt-ltb}
use Rattle.simplex_view_maps.proofs.Maps.{is_eq-nat_cmp}
use Rattle.simplex_types.specs.Terms.{term_start, term_end}
use Rattle.simplex_round.specs.declared.round.Leader.{Leader}
use Rattle.simplex_round.specs.Round.{RoundFacts, leader_at}
use Rattle.simplex_voter.specs.Facts.{StateFacts, Elect, round_at, round_of, with_round}
use Rattle.simplex_voter.specs.Windows.{in_issuance_window}
use Rattle.simplex_voter.specs.Payloads.{explicit_ancestry_payload, is_elected_early}
use Rattle.simplex_voter.specs.Gaps.{first_unnullified_view, is_gapless}
use Rattle.simplex_voter.specs.Rules.{has_conflicting_nullify}
use Rattle.simplex_voter.specs.Refusals.{is_too_large, has_late_deadline}
use Rattle.simplex_voter.specs.ViewEntry.{with_view_entered, entered_round}
use Rattle.simplex_voter.specs.Leaders.{has_leader, with_leader_at, with_leader_of, with_window_leaders, with_next_view_ready}
use Rattle.simplex_voter.specs.Certification.{named_also, waits_for, with_waiting_candidate}

module _ {K L D : Type 0} where
  -- the round of another view stays
  pub round_kept : (x : StateFacts K L D) (v w : ℕ) (r : RoundFacts K D) → (w ≡ v → ⊥)
      → round_at (with_round x v r) w ≡ round_at x w
  round_kept x v w r other = find-put nat_cmp nat_cmp_total w v r x.rounds
      ∙ ap (λ b. cond b (Some r) (round_at x w)) (is_eq-nat_cmp w v ∙ ne_eqb w v other)

  -- the round that was put at a view is there
  pub round_here : (x : StateFacts K L D) (v : ℕ) (r : RoundFacts K D) → round_at (with_round x v r) v ≡ Some r
  round_here x v r = find-put nat_cmp nat_cmp_total v v r x.rounds
      ∙ ap (λ b. cond b (Some r) (round_at x v)) (is_eq-nat_cmp v v ∙ eq-eqb v v refl)

-- what is the same for all that follows: the member, its epoch, and the term start with the parent that it is built on
pub record StandingMember (D : Type 0) : Type 0 where
  pub me : ℕ
  pub epoch : ℕ
  pub view : ℕ
  pub parent : ℕ
  pub payload : D

-- the member is at this view or the next one, where the round is this; a proposal on the parent may be verified
pub record StandsAtView {K L D : Type 0} (l : StandingMember D) (r : RoundFacts K D) (stands_at : ℕ)
    (x : StateFacts K L D) : Type 0 where
  pub here : round_at x l.view ≡ Some r
  pub ordered : T (is_sorted nat_cmp x.rounds)
  pub alive : x.failed ≡ false
  pub me : x.me ≡ Some l.me
  pub epoch : x.settings.epoch ≡ l.epoch
  pub current : x.current ≡ stands_at
  pub start : l.view ≡ term_start x.terms.term_length l.view
  pub below : l.parent < l.view
  pub above : x.finalized ≤ l.parent
  pub explicit : explicit_ancestry_payload x l.parent ≡ Some l.payload
  pub gapless : is_gapless x l.parent l.view ≡ true
  pub ungated : has_conflicting_nullify x l.view ≡ false
  pub on_time : has_late_deadline x 0 ≡ false
  pub small : is_too_large l.view ≡ false

module _ {K L D : Type 0} (l : StandingMember D) where
  -- rounds that preserve the parent's, and what is beside them
  pub remade : (r q : RoundFacts K D) (c d : ℕ) (x : StateFacts K L D) (rounds : List (ℕ × RoundFacts K D))
      (named : List ℕ) (moment : ℕ)
      → StandsAtView l r c x
      → find nat_cmp l.view rounds ≡ Some q
      → T (is_sorted nat_cmp rounds)
      → find nat_cmp l.parent rounds ≡ round_at x l.parent
      → StandsAtView l q d (record x { rounds = rounds; named = named; moment = moment; current = d })
  unfolding explicit_ancestry_payload first_unnullified_view has_conflicting_nullify
  remade r q c d x rounds named moment s here ordered parent = record {
    here = here;
    ordered = ordered;
    alive = s.alive;
    me = s.me;
    epoch = s.epoch;
    current = refl;
    start = s.start;
    below = s.below;
    above = s.above;
    explicit = rw parent s.explicit;
    gapless = s.gapless;
    ungated = s.ungated;
    on_time = s.on_time;
    small = s.small;
  }

  -- another round at the view
  pub put_here : (r q : RoundFacts K D) (c : ℕ) (x : StateFacts K L D) → StandsAtView l r c x
      → StandsAtView l q c (with_round x l.view q)
  put_here r q c x s =
      let other : l.parent ≡ l.view → ⊥ = λ same. absurd (omega (arith, same, s.below)) in
      subst (λ n. StandsAtView l q n (with_round x l.view q)) s.current
      (remade r q c x.current x (put nat_cmp l.view q x.rounds) x.named x.moment s (round_here x l.view q)
      (is_sorted-put nat_cmp nat_cmp_total l.view q x.rounds s.ordered) (round_kept x l.view l.parent q other))

  -- any round at a view above
  pub put_above : (r q : RoundFacts K D) (c w : ℕ) (x : StateFacts K L D) → l.view < w → StandsAtView l r c x
      → StandsAtView l r c (with_round x w q)
  put_above r q c w x high s =
      let other : l.parent ≡ w → ⊥ = λ same. absurd (omega (arith, same, s.below, high)) in
      let apart : l.view ≡ w → ⊥ = λ same. absurd (omega (arith, same, high)) in
      subst (λ n. StandsAtView l r n (with_round x w q)) s.current
      (remade r r c x.current x (put nat_cmp w q x.rounds) x.named x.moment s (round_kept x w l.view q apart ∙ s.here)
      (is_sorted-put nat_cmp nat_cmp_total w q x.rounds s.ordered) (round_kept x w l.parent q other))

  -- another moment, and other views that wait for certification
  pub at_another : (r : RoundFacts K D) (c : ℕ) (x : StateFacts K L D) (named : List ℕ) (moment : ℕ)
      → StandsAtView l r c x → StandsAtView l r c (record x { named = named; moment = moment })
  at_another r c x named moment s = subst (λ n. StandsAtView l r n (record x { named = named; moment = moment }))
      s.current (remade r r c x.current x x.rounds named moment s s.here s.ordered refl)

  -- either of two states
  pub either : (r : RoundFacts K D) (c : ℕ) (b : Bool) (x y : StateFacts K L D) → StandsAtView l r c x
      → StandsAtView l r c y → StandsAtView l r c (if b then x else y)
  either r c true x y s t = s
  either r c false x y s t = t

  -- leaders of views above
  pub leader_above : (r : RoundFacts K D) (c w member : ℕ) (x : StateFacts K L D) → l.view < w → StandsAtView l r c x
      → StandsAtView l r c (with_leader_at x w member)
  leader_above r c w member x high s = either r c (has_leader x w) x
      (with_round x w (record (round_of x w) { leader = leader_at x.members member })) s (put_above r _ c w x high s)

  pub leader_handed : (r : RoundFacts K D) (c from w : ℕ) (x : StateFacts K L D) → l.view < w → StandsAtView l r c x
      → StandsAtView l r c (with_leader_of x from w)
  leader_handed r c from w x high s = by_leader (round_of x from).leader
    where
      by_leader : (o : Option (Leader K)) → StandsAtView l r c
          (option_map_or (λ found. with_leader_at x w found.idx) o x)
      by_leader None = s
      by_leader (Some found) = leader_above r c w found.idx x high s

  leaders_handed : (r : RoundFacts K D) (c low count : ℕ) (x : StateFacts K L D) → l.view < low → StandsAtView l r c x
      → StandsAtView l r c (fold (λ y w. with_leader_of y (w - 1) w) x (range_with_len low count))
  leaders_handed r c low zero x high s = s
  leaders_handed r c low (suc count) x high s =
      leaders_handed r c (low + 1) count (with_leader_of x (low - 1) low) (omega arith)
      (leader_handed r c (low - 1) low x high s)

  pub window_led : (r : RoundFacts K D) (c : ℕ) (x : StateFacts K L D) → StandsAtView l r c x
      → StandsAtView l r c (with_window_leaders x l.view)
  window_led r c x s = by_test (x.terms.optimistic_views == 0)
    where
      count : ℕ
      count = min (term_end x.terms.term_length l.view) (l.view + x.terms.optimistic_views + 1) - l.view

      by_test : (b : Bool) → StandsAtView l r c
          (fold (λ y w. with_leader_of y (w - 1) w) x (if b then [] else range_with_len (l.view + 1) count))
      by_test true = s
      by_test false = leaders_handed r c (l.view + 1) count x (omega arith) s

  pub next_ready : (elect : Elect L) (r : RoundFacts K D) (c : ℕ) (x : StateFacts K L D) → StandsAtView l r c x
      → StandsAtView l r c (with_next_view_ready elect x l.view)
  next_ready elect r c x s =
      either r c (in_issuance_window x (l.view + 1)) _ _ (leader_handed r c l.view (l.view + 1) x (omega arith) s)
      (either r c ((round_of x l.view).notarize_decided && is_elected_early elect x (l.view + 1)) _ _
      (leader_above r c (l.view + 1) _ x (omega arith) s) s)

  -- views wait for certification
  pub waits : (r : RoundFacts K D) (c w : ℕ) (x : StateFacts K L D) → StandsAtView l r c x
      → StandsAtView l r c (named_also x w)
  waits r c w x s = either r c (nat_lt x.finalized w) _ _ (at_another r c x (insert_key nat_cmp x.named w) x.moment s) s

  pub woken : (elect : Elect L) (r : RoundFacts K D) (c w : ℕ) (x : StateFacts K L D) → StandsAtView l r c x
      → StandsAtView l r c (with_waiting_candidate elect x w)
  woken elect r c w x s = either r c (option_map_or (waits_for elect x w) (round_at x (w + 1)) false) _ _
      (waits r c (w + 1) x s) s

  -- the next view is entered
  pub next_entered : (r : RoundFacts K D) (now : ℕ) (x : StateFacts K L D) → StandsAtView l r l.view x
      → StandsAtView l r (l.view + 1) (with_view_entered x (l.view + 1) now)
  next_entered r now x s =
      let higher : nat_lt x.current (l.view + 1) ≡ true = lt-ltb x.current (l.view + 1) (omega (arith, s.current)) in
      let q = entered_round x (round_of x (l.view + 1)) now in
      let other : l.parent ≡ l.view + 1 → ⊥ = λ same. absurd (omega (arith, same, s.below)) in
      let apart : l.view ≡ l.view + 1 → ⊥ = λ same. absurd (omega (arith, same)) in
      rw higher
      (remade r r l.view (l.view + 1) x (put nat_cmp (l.view + 1) q x.rounds) x.named x.moment s
      (round_kept x (l.view + 1) l.view q apart ∙ s.here)
      (is_sorted-put nat_cmp nat_cmp_total (l.view + 1) q x.rounds s.ordered)
      (round_kept x (l.view + 1) l.parent q other))
