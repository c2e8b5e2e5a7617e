-- What is known of a state that waits for an untouched term start, and what leaves it so.
use Rattle.std.proofs.Common.{◌≡◌, refl, ap, sym, ◌∙◌, subst, inl, inr, ℕ, ◌<◌, ◌≤◌, Bool, true, false, List, [], ◌∷◌, Option, Some, None, unwrap_or, arith}
use Rattle.std.specs.Prelude.{T, if◌then◌else◌, option_and_then, MatchOption, is_none}
use Rattle.std.specs.List.{list_any}
use Rattle.std.specs.Ordering.{nat_cmp, is_eq, match_ordering}
use Rattle.std.specs.declared.cmp.Ordering.{Ordering}
use Rattle.simplex_view_maps.proofs.Maps.{is_eq-nat_cmp}
use Rattle.std.specs.declared.cmp.Ordering.TheVariants.{Less, Equal, Greater}
use Rattle.std.specs.BTreeSet.{insert_key}
use Rattle.std.specs.Cmp.{nat_cmp_total}
use Rattle.std.specs.FinMap.Entries.{is_sorted, is_sorted-put}
use Rattle.std.proofs.lemmas.Bool.{ne_eqb, eqb-true, cases_eq, cases_lt, true≢false}
use Rattle.simplex_types.specs.Terms.{term_start, next_term_start, covers}
use Rattle.simplex_types.proofs.Covers.{same_start, covers_from}
use Rattle.simplex_round.specs.Round.{RoundFacts, new_round, is_finalize}
use Rattle.simplex_voter.specs.Acceptance.{nullified_also}
use Rattle.simplex_voter.specs.Facts.{StateFacts, round_at, round_of, round_number, with_round}
use Rattle.simplex_voter.specs.Gaps.{IsGapless, IsFirstGap, first_unnullified_view}
use Rattle.simplex_voter.specs.Payloads.{certified_payload, explicit_ancestry_payload}
use Rattle.simplex_voter.specs.Refusals.{is_too_large, has_late_deadline}
use Rattle.simplex_voter.proofs.Elsewhere.{round_of-with_round}
use Rattle.simplex_voter.proofs.Gaps.{or_right, first_unnullified_view-is, covering_stays}
use Rattle.simplex_record.proofs.Rounds.{round_put}
use Rattle.laws_progress.proofs.states.AtTermStart.{StandingMember, StandsAtView, round_kept, round_here}
use Rattle.laws_progress.proofs.runs.Starts.{no_gate}

-- the member is at a view up to the start, where this is known of the start's round; all between the parent and
-- `covered_to` is nullified
pub record Waits {K L D : Type 0} (length : ℕ) (l : StandingMember D) (h : Option (RoundFacts K D))
    (stands_at covered_to : ℕ) (x : StateFacts K L D) : Type 0 where
  pub here : round_at x l.view ≡ h
  pub ordered : T (is_sorted nat_cmp x.rounds)
  pub alive : x.failed ≡ false
  pub me : x.me ≡ Some l.me
  pub epoch : x.settings.epoch ≡ l.epoch
  pub terms : x.terms.term_length ≡ length
  pub current : x.current ≡ stands_at
  pub start : l.view ≡ term_start length l.view
  pub low : l.parent < stands_at
  pub high : stands_at ≤ l.view
  pub above : x.finalized ≤ l.parent
  pub explicit : explicit_ancestry_payload x l.parent ≡ Some l.payload
  pub gapless : IsGapless x l.parent covered_to
  -- nothing is to be finalized from the current view on, and nothing above the parent is certified
  pub undecided : (v : ℕ) → stands_at ≤ v → is_finalize (round_of x v).decision ≡ false
  pub highest : (v : ℕ) → l.parent < v → explicit_ancestry_payload x v ≡ None
  pub on_time : has_late_deadline x 0 ≡ false
  pub small : is_too_large l.view ≡ false

module _ {K L D : Type 0} where
  -- a payload is explicit by the round of its view alone
  explicit_same : (x y : StateFacts K L D) (p : ℕ) → y.genesis ≡ x.genesis → round_at y p ≡ round_at x p
      → explicit_ancestry_payload y p ≡ explicit_ancestry_payload x p
  unfolding explicit_ancestry_payload
  explicit_same x y p genesis rounds = rw (genesis, rounds) refl

  -- what is explicit, by the round
  pub explicit_by : (x : StateFacts K L D) (v : ℕ) → 0 < v
      → explicit_ancestry_payload x v ≡ option_and_then certified_payload (round_at x v)
  unfolding explicit_ancestry_payload
  explicit_by x v some = rw (ne_eqb v 0 (λ is. absurd (omega (arith, is, some)))) refl

  pub unexplicit_round : (x : StateFacts K L D) (v : ℕ) → 0 < v → explicit_ancestry_payload x v ≡ None
      → certified_payload (round_of x v) ≡ None
  unexplicit_round x v some none = by_round (round_at x v) (sym (explicit_by x v some) ∙ none)
    where
      by_round : (o : Option (RoundFacts K D)) → option_and_then certified_payload o ≡ None
          → certified_payload (unwrap_or o (new_round x.me x.members (round_number x v))) ≡ None
      by_round None is = refl
      by_round (Some r) is = is

-- a test passes where the key that comes in does
any_of_new : (test : ℕ → Bool) (us : List ℕ) (u : ℕ) → test u ≡ true → list_any test (insert_key nat_cmp us u) ≡ true
any_of_new test [] u is = rw is refl
any_of_new test (v ∷ us) u is = by_order (nat_cmp u v) refl (any_of_new test us u is)
  where
    by_order : (o : Ordering) → nat_cmp u v ≡ o → list_any test (insert_key nat_cmp us u) ≡ true
        → list_any test (match_ordering o (u ∷ v ∷ us) (v ∷ us) (v ∷ insert_key nat_cmp us u)) ≡ true
    by_order Less at behind = rw is refl
    by_order Equal at behind = let same : u ≡ v = eqb-true u v (sym (is_eq-nat_cmp u v) ∙ ap is_eq at) in
        rw (ap test (sym same) ∙ is) refl
    by_order Greater at behind = or_right (test v) _ behind

module _ {K L D : Type 0} (length : ℕ) (l : StandingMember D) where
  -- a round above the parent, with nothing decided or certified
  pub put_waits : (h : Option (RoundFacts K D)) (c g v : ℕ) (r : RoundFacts K D) (x : StateFacts K L D)
      → Waits length l h c g x → l.parent < v → (c ≤ v → is_finalize r.decision ≡ false) → certified_payload r ≡ None
      → Waits length l (round_at (with_round x v r) l.view) c g (with_round x v r)
  put_waits h c g v r x w up open_still no_payload = record {
    here = refl;
    ordered = is_sorted-put nat_cmp nat_cmp_total v r x.rounds w.ordered;
    alive = w.alive;
    me = w.me;
    epoch = w.epoch;
    terms = w.terms;
    current = w.current;
    start = w.start;
    low = w.low;
    high = w.high;
    above = w.above;
    explicit = parent_same w.explicit;
    gapless = w.gapless;
    undecided = λ u from. elim (cases_eq u v) [
      | inl at ↦ subst (λ n. is_finalize (round_of (with_round x v r) n).decision ≡ false) (sym at)
          (ap (λ (s : RoundFacts K D). is_finalize s.decision) (round_put x v r) ∙ open_still (omega (arith, from, at)))
      | inr apart ↦ ap (λ (s : RoundFacts K D). is_finalize s.decision) (round_of-with_round x u v apart r)
          ∙ w.undecided u from
    ];
    highest = λ u from. explicit_by (with_round x v r) u (omega (arith, from)) ∙ elim (cases_eq u v) [
      | inl at ↦ subst (λ n. option_and_then certified_payload (round_at (with_round x v r) n) ≡ None) (sym at)
          (ap (option_and_then certified_payload) (round_here x v r) ∙ no_payload)
      | inr apart ↦ ap (option_and_then certified_payload) (round_kept x v u r apart)
          ∙ (sym (explicit_by x u (omega (arith, from))) ∙ w.highest u from)
    ];
    on_time = w.on_time;
    small = w.small;
  }
    where
      parent_same : explicit_ancestry_payload x l.parent ≡ Some l.payload
          → explicit_ancestry_payload (with_round x v r) l.parent ≡ Some l.payload
      parent_same is = explicit_same x (with_round x v r) l.parent refl
          (round_kept x v l.parent r (λ at. absurd (omega (arith, at, up)))) ∙ is

  -- another moment, other views that were voted to be nullified, and a later current view
  pub reached : (h : Option (RoundFacts K D)) (c d g moment : ℕ) (votes : List ℕ) (x : StateFacts K L D)
      → Waits length l h c g x → c ≤ d → d ≤ l.view
      → Waits length l h d g (record x { current = d; moment = moment; nullify_votes = votes })
  unfolding explicit_ancestry_payload
  reached h c d g moment votes x w later high = record {
    here = w.here;
    ordered = w.ordered;
    alive = w.alive;
    me = w.me;
    epoch = w.epoch;
    terms = w.terms;
    current = refl;
    start = w.start;
    low = omega (arith, w.low, later);
    high = high;
    above = w.above;
    explicit = w.explicit;
    gapless = w.gapless;
    undecided = λ u from. w.undecided u (omega (arith, from, later));
    highest = w.highest;
    on_time = w.on_time;
    small = w.small;
  }

  -- a nullification covers the rest of its term
  pub covered_on : (h : Option (RoundFacts K D)) (c g : ℕ) (x : StateFacts K L D) → 1 ≤ g → Waits length l h c g x
      → Waits length l h c (next_term_start length g) (nullified_also x g)
  unfolding explicit_ancestry_payload
  covered_on h c g x some w = record {
    here = w.here;
    ordered = w.ordered;
    alive = w.alive;
    me = w.me;
    epoch = w.epoch;
    terms = w.terms;
    current = w.current;
    start = w.start;
    low = w.low;
    high = w.high;
    above = w.above;
    explicit = w.explicit;
    gapless = λ v up down. elim (cases_lt v g) [
      | inl before ↦ covering_stays x g v (w.gapless v up before)
      | inr from ↦ any_of_new (λ n. covers x.terms.term_length n v) x.nullified g
          (ap (λ n. covers n g v) w.terms ∙ covers_from length g v (omega (arith, from))
          (sym (same_start length g v some (omega (arith, from)) down)))
    ];
    undecided = w.undecided;
    highest = w.highest;
    on_time = w.on_time;
    small = w.small;
  }

  -- where the start is entered, the member is there
  pub stands_now : (r : RoundFacts K D) (x : StateFacts K L D) → 0 < length → Waits length l (Some r) l.view l.view x
      → StandsAtView l r l.view x
  stands_now r x some w =
      let start : l.view ≡ term_start x.terms.term_length l.view = w.start
      ∙ ap (λ n. term_start n l.view) (sym w.terms) in
      record {
        here = w.here;
        ordered = w.ordered;
        alive = w.alive;
        me = w.me;
        epoch = w.epoch;
        current = w.current;
        start = start;
        below = w.low;
        above = w.above;
        explicit = w.explicit;
        gapless = by_gap (first_unnullified_view x l.parent l.view)
            (first_unnullified_view-is x l.parent l.view (subst (λ n. 0 < n) (sym w.terms) some));
        ungated = no_gate x l.view start;
        on_time = w.on_time;
        small = w.small;
      }
    where
      by_gap : (o : Option ℕ) → MatchOption o (IsGapless x l.parent l.view) (IsFirstGap x l.parent l.view)
          → is_none o ≡ true
      by_gap None none = refl
      by_gap (Some v) gap = absurd (true≢false (sym (w.gapless v gap.above gap.below) ∙ gap.uncovered))

  -- what is known of the start's round
  pub known_as : (h k : Option (RoundFacts K D)) (c g : ℕ) (x : StateFacts K L D) → Waits length l h c g x
      → round_at x l.view ≡ k → Waits length l k c g x
  known_as h k c g x w is = subst (λ o. Waits length l o c g x) (sym w.here ∙ is) w

  pub at_its_own : (h : Option (RoundFacts K D)) (c g : ℕ) (x : StateFacts K L D) → Waits length l h c g x
      → Waits length l h x.current g x
  at_its_own h c g x w = subst (λ n. Waits length l h n g x) (sym w.current) w

  pub either_waits : (c g : ℕ) (b : Bool) (x y : StateFacts K L D) → Waits length l (round_at x l.view) c g x
      → Waits length l (round_at y l.view) c g y
      → Waits length l (round_at (if b then x else y) l.view) c g (if b then x else y)
  either_waits c g true x y v w = v
  either_waits c g false x y v w = w
