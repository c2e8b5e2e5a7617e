-- A member that receives what leads to a view, by certificates and verdicts below it: what each event preserves.
use Rattle.std.proofs.Common.{◌≡◌, refl, ap, sym, ◌∙◌, subst, ◌⊎◌, inl, inr, ℕ, zero, suc, ◌+◌, ◌-◌, ◌<◌, ◌≤◌, max, min, length, Bool, true, false, ◌&&◌, ◌||◌, if◌then◌else◌, nat_lt, nat_le, [], Option, Some, None, arith}
use Rattle.std.specs.Prelude.{◌==◌}
use Rattle.std.specs.List.{range_with_len}
use Rattle.std.specs.Option.{option_map_or}
use Rattle.std.proofs.Math.Bool.{and-false}
use Rattle.std.proofs.lemmas.Bool.{eq-eqb, ne_eqb, lt-ltb, le-leb}
use Rattle.simplex_types.specs.Certificates.{ProposalFacts, NullificationFacts}
use Rattle.simplex_types.specs.Terms.{next_term_start, term_end}
use Rattle.simplex_types.specs.declared.types.numbers.Round.{Round}
use Rattle.simplex_round.specs.Round.{RoundFacts}
use Rattle.simplex_voter.specs.Facts.{StateFacts, Elect, round_of, is_tracked, with_round}
use Rattle.simplex_voter.specs.Leaders.{has_leader, with_leader_at, with_elected_leader, opened_views}
use Rattle.simplex_voter.specs.Refusals.{takes_round, is_started, is_past_u64, has_late_deadline}
use Rattle.simplex_voter.specs.Windows.{admits_certificate, min_active}
use Rattle.simplex_voter.proofs.Gaps.{and_both, or_right}
use Rattle.simplex_member.specs.OutstandingWork.{is_among}
use Rattle.simplex_record.specs.Events as event
use Rattle.simplex_record.specs.Events.{Event, IsEvent, after_event, finalized_by_event, covers_from, is_prune}
use Rattle.laws_history.specs.LeaderHistory.{comes_to_track, tracks_by, opens}
use Rattle.laws_history.specs.HistoryFacts.{verdict_of}
use Rattle.laws_history.specs.HistoryFolds.{or_new, brings_notarization, verdict_of_event, entered_by}
use Rattle.laws_history.specs.Moments.{enters}
use Rattle.laws_safety.proofs.frames.NoLowerViews.{event_goes}
use Rattle.laws_safety.proofs.frames.Sound.{event_ahead}
use Rattle.laws_history.proofs.EventsWorked.{event_works}
use Rattle.laws_history.proofs.EventFacts.{FollowsEvent, left_from}
use Rattle.laws_history.proofs.ReplayEvents.{event_follows}
use Rattle.laws_progress.specs.NetworkStates.{IsSetUpAs}
use Rattle.laws_progress.proofs.runs.Brought.{new_or_old, notarizes_by}

-- the member is at the view or below it, with this finalized view, and this verdict on the parent; these nullifications
-- are known, and it
-- knows nothing of the start
pub record Nears {K L D : Type 0} (term_length epoch count me : ℕ) (elector : L) (parent view start finalized : ℕ)
    (verdict : Option Bool) (given : Round → Type 0) (x : StateFacts K L D) : Type 0 where
  pub alive : x.failed ≡ false
  pub set : IsSetUpAs epoch count elector me x
  pub terms : x.terms.term_length ≡ term_length
  pub ahead : x.finalized < x.current
  pub passed : x.finalized ≡ finalized
  pub reached : x.current ≤ view
  pub untouched : is_tracked x start ≡ false
  pub judged : verdict_of (round_of x parent).certification ≡ verdict
  pub placed : (c : ProposalFacts D) → (round_of x parent).notarization ≡ Some c → c.proposal.round.view ≡ parent
  pub known : (round : Round) → given round
      → (is_among round.view x.nullified ≡ true) × (next_term_start term_length round.view ≤ x.current)

late_same : {K L D : Type 0} (x y : StateFacts K L D) → y.settings ≡ x.settings → y.terms ≡ x.terms
    → has_late_deadline y 0 ≡ has_late_deadline x 0
late_same x y s t = λ j. is_past_u64 (0 + (s j).leader_timeout) || is_past_u64 (0 + (s j).certification_timeout)
    || option_map_or (λ time. is_past_u64 (0 + time)) (t j).stall_timeout false

module _ {K L D : Type 0} (same : D → D → Bool) (decides : (d e : D) → same d e ≡ true → d ≡ e) (elect : Elect L)
    (term_length epoch count me : ℕ) (elector : L) (parent view start : ℕ) (x : StateFacts K L D) (e : Event K D) where
  abbrev y : StateFacts K L D
  y = after_event same elect x e

  set_still : IsSetUpAs epoch count elector me x → IsSetUpAs epoch count elector me y
  set_still set =
      let goes = event_goes same elect x e in
      record {
        signs = goes.me ∙ set.signs;
        of_epoch = ap (λ s. s.epoch) goes.settings ∙ set.of_epoch;
        elects_by = goes.elector ∙ set.elects_by;
        members = ap (λ ms. length ms) goes.members ∙ set.members;
        on_time = late_same x y goes.settings goes.terms ∙ set.on_time;
      }

  -- a view that nothing speaks of stays untracked
  untouched_still : is_prune e ≡ false → view < start → entered_by x.terms.term_length (is_tracked x) e ≤ view
      → comes_to_track same elect start x e ≡ false → is_tracked x start ≡ false → is_tracked y start ≡ false
  untouched_still no_prune far enters_below silent untouched =
      let not_entered : enters start x e ≡ None =
      rw (ne_eqb start (entered_by x.terms.term_length (is_tracked x) e)
      (λ at. absurd (omega (arith, at, far, enters_below)))) refl in
      ap (λ k. k.tracked) ((event_works same elect x e).work start (nothing_left no_prune))
      ∙ rw (not_entered, silent, untouched) refl
    where
      nothing_left : is_prune e ≡ false → left_from x e ≤ start
      nothing_left no_prune = subst (λ b. (if b then min_active x else 0) ≤ start) (sym no_prune) (omega arith)

  module _ (allowed : IsEvent x e) (no_prune : is_prune e ≡ false) (far : view < start) (finalized finalized_then : ℕ)
      (verdict verdict_then : Option Bool) (given : Round → Type 0)
      (nears : Nears term_length epoch count me elector parent view start finalized verdict given x) where
    follows : FollowsEvent same elect e x y
    follows = event_follows same decides elect x e allowed

    none_left : (v : ℕ) → left_from x e ≤ v
    none_left v = subst (λ b. (if b then min_active x else 0) ≤ v) (sym no_prune) (omega arith)

    placed_still : (c : ProposalFacts D) → (round_of y parent).notarization ≡ Some c → c.proposal.round.view ≡ parent
    placed_still c is = elim (new_or_old (round_of x parent).notarization (brings_notarization parent e) c
        (sym (ap (λ k. k.notarization) (follows.rounds parent (none_left parent))) ∙ is)) [
          | inl old ↦ nears.placed c old
          | inr new ↦ (notarizes_by parent e c new).1
        ]

    pub event_nears : entered_by term_length (is_tracked x) e ≤ view → comes_to_track same elect start x e ≡ false
        → finalized_then ≡ max finalized (finalized_by_event e)
        → verdict_then ≡ or_new verdict (verdict_of_event (is_tracked x) parent e)
        → Nears term_length epoch count me elector parent view start finalized_then verdict_then given y
    event_nears enters_below silent final judges =
        let goes = event_goes same elect x e in
        let entered_here : entered_by x.terms.term_length (is_tracked x) e ≤ view =
        subst (λ n. entered_by n (is_tracked x) e ≤ view) (sym nears.terms) enters_below in
        record {
          alive = goes.failed ∙ nears.alive;
          set = set_still nears.set;
          terms = ap (λ t. t.term_length) goes.terms ∙ nears.terms;
          ahead = event_ahead same elect x e (inl nears.ahead);
          passed = follows.finalized ∙ (ap (λ n. max n (finalized_by_event e)) nears.passed ∙ sym final);
          reached = omega (arith, follows.current, nears.reached, entered_here);
          untouched = untouched_still no_prune far entered_here silent nears.untouched;
          judged = ap (λ k. k.verdict) (follows.rounds parent (none_left parent))
              ∙ (ap (λ o. or_new o (verdict_of_event (is_tracked x) parent e)) nears.judged ∙ sym judges);
          placed = placed_still;
          known = λ round h. (let old = nears.known round h in (
            follows.nullified round.view (none_left round.view) ∙ or_right (covers_from round.view e) _ old.0,
            omega (arith, old.1, goes.current),
          ));
        }

not_among : (count from v : ℕ) → from + count ≤ v → is_among v (range_with_len from count) ≡ false
not_among zero from v above = refl
not_among (suc count) from v above = rw (ne_eqb v from (λ at. absurd (omega (arith, at, above))))
    (not_among count (from + 1) v (omega (arith, above)))

-- a window that a certificate opens ends with the term
module _ {K L D : Type 0} where
  led_terms : (x : StateFacts K L D) (v member : ℕ) → (with_leader_at x v member).terms ≡ x.terms
  led_terms x v member = by_leader (has_leader x v) _
    where
      by_leader : (b : Bool) (r : RoundFacts K D) → (if b then x else with_round x v r).terms ≡ x.terms
      by_leader true r = refl
      by_leader false r = refl

  not_opened : (x : StateFacts K L D) (u v : ℕ) → next_term_start x.terms.term_length u ≤ v → u < v
      → is_among v (opened_views x u) ≡ false
  not_opened x u v behind below = by_test (x.terms.optimistic_views == 0)
    where
      by_test : (b : Bool) → is_among v (if b then [] else range_with_len (u + 1)
          (min (term_end x.terms.term_length u) (u + x.terms.optimistic_views + 1) - u)) ≡ false
      by_test true = refl
      by_test false = not_among (min (term_end x.terms.term_length u) (u + x.terms.optimistic_views + 1) - u) (u + 1) v
          (omega (arith, behind, below))

  pub no_window_there : (elect : Elect L) (x : StateFacts K L D) (c : ProposalFacts D) (is_first : Bool) (v : ℕ)
      → next_term_start x.terms.term_length c.proposal.round.view ≤ v → c.proposal.round.view + 1 < v
      → tracks_by elect x is_first v c ≡ false
  no_window_there elect x c is_first v behind below =
      let u = c.proposal.round.view in
      let led : StateFacts K L D = with_elected_leader elect x (u + 1) (Some c.bytes) in
      let shut : is_among v (opened_views led u) ≡ false =
      not_opened led u v (subst (λ t. next_term_start t.term_length u ≤ v) (sym (led_terms x (u + 1) _)) behind)
      (omega (arith, below)) in
      let closed : opens elect x v c ≡ None = rw shut refl in
      rw (
        ne_eqb v u (λ at. absurd (omega (arith, at, below))),
        ne_eqb v (u + 1) (λ at. absurd (omega (arith, at, below))),
        closed,
      ) (and-false is_first)

-- what may be passed in

module _ {K L D : Type 0} (term_length epoch count me : ℕ) (elector : L) (parent view start finalized : ℕ)
    (verdict : Option Bool) (given : Round → Type 0) (x : StateFacts K L D)
    (nears : Nears term_length epoch count me elector parent view start finalized verdict given x) where
  pub takes_it : (round : Round) → round.epoch ≡ epoch → 1 ≤ round.view → finalized ≤ round.view
      → takes_round x round ≡ true
  takes_it round in_epoch some above =
      and_both (is_started x && (round.epoch == x.settings.epoch)) (admits_certificate x round.view)
      (and_both (is_started x) (round.epoch == x.settings.epoch) (lt-ltb 0 x.current (omega (arith, nears.ahead)))
      (eq-eqb round.epoch x.settings.epoch (in_epoch ∙ sym nears.set.of_epoch)))
      (and_both (nat_le 1 round.view) (nat_le (min_active x) round.view) (le-leb 1 round.view some)
      (le-leb (min_active x) round.view (omega (arith, above, nears.passed))))

  pub not_late : (v : ℕ) → (nat_lt x.current v && has_late_deadline x 0) ≡ false
  not_late v = rw nears.set.on_time (and-false (nat_lt x.current v))

  pub given_less : (fewer : Round → Type 0) → ((r : Round) → fewer r → given r)
      → Nears term_length epoch count me elector parent view start finalized verdict fewer x
  given_less fewer within = record {
    alive = nears.alive;
    set = nears.set;
    terms = nears.terms;
    ahead = nears.ahead;
    passed = nears.passed;
    reached = nears.reached;
    untouched = nears.untouched;
    judged = nears.judged;
    placed = nears.placed;
    known = λ r h. nears.known r (within r h);
  }

-- a nullification that is passed in is known then
module _ {K L D : Type 0} (same : D → D → Bool) (decides : (d e : D) → same d e ≡ true → d ≡ e) (elect : Elect L)
    (term_length epoch count me : ℕ) (elector : L) (parent view start finalized : ℕ) (verdict : Option Bool)
    (given : Round → Type 0) (x : StateFacts K L D)
    (nears : Nears term_length epoch count me elector parent view start finalized verdict given x)
    (c : NullificationFacts) (far : view < start) (takes : takes_round x c.round ≡ true)
    (next : next_term_start term_length c.round.view ≤ view) (low : c.round.view < start) where
  pub nullified_nears : Nears term_length epoch count me elector parent view start finalized verdict
      (λ r. (r ≡ c.round) ⊎ given r) (after_event same elect x (event.AddNullification c 0))
  nullified_nears = record {
    alive = after.alive;
    set = after.set;
    terms = after.terms;
    ahead = after.ahead;
    passed = after.passed;
    reached = after.reached;
    untouched = after.untouched;
    judged = after.judged;
    placed = after.placed;
    known = λ r h. elim h [
      | inl here ↦ subst
          (λ (q : Round). (is_among q.view y.nullified ≡ true) × (next_term_start term_length q.view ≤ y.current))
          (sym here) known_now
      | inr old ↦ after.known r old
    ];
  }
    where
      e : Event K D
      e = event.AddNullification c 0

      y : StateFacts K L D
      y = after_event same elect x e

      silent : comes_to_track same elect start x e ≡ false
      silent = rw (
        ne_eqb start c.round.view (λ at. absurd (omega (arith, at, low))),
        ne_eqb start (next_term_start x.terms.term_length c.round.view)
            (λ at. absurd (let up = subst (λ n. next_term_start n c.round.view ≤ view) (sym nears.terms) next in
            omega (arith, at, up, far))),
      ) refl

      after : Nears term_length epoch count me elector parent view start finalized verdict given y
      after = event_nears same decides elect term_length epoch count me elector parent view start x e takes refl far
          finalized finalized verdict verdict given nears next silent (omega arith) refl

      follows : FollowsEvent same elect e x y
      follows = event_follows same decides elect x e takes

      known_now : (is_among c.round.view y.nullified ≡ true) × (next_term_start term_length c.round.view ≤ y.current)
      known_now = (
        follows.nullified c.round.view (omega arith) ∙ rw (eq-eqb c.round.view c.round.view refl) refl,
        (let up = subst (λ n. next_term_start n c.round.view ≤ y.current) nears.terms (omega (arith, follows.current))
            in up),
      )
