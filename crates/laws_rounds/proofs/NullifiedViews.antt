-- Of a state of a run: the current view lies above the term of each nullified view, and a nullification that is added
-- raises it.
use Rattle.std.proofs.Common.{◌≡◌, refl, ap, sym, ◌∙◌, subst, ℕ, zero, suc, ◌<◌, ◌≤◌, ◌⊎◌, inl, inr, Bool, true, false, List, Option, Some, None, is_some, unwrap_or, if◌then◌else◌, arith}
use Rattle.std.specs.Prelude.{is_none, option_and_then}
use Rattle.std.proofs.lemmas.Bool.{false≢true, true≢false}
use Rattle.simplex_types.specs.Certificates.{NullificationFacts, CertificateFacts, Notarized, Nullified, Finalized}
use Rattle.simplex_types.specs.Config.{FloorFacts}
use Rattle.simplex_types.specs.Terms.{next_term_start}
use Rattle.simplex_types.specs.declared.types.window.Terms.{Terms}
use Rattle.simplex_round.specs.Round.{RoundFacts, new_round, leader_at}
use Rattle.simplex_voter.specs.Acceptance.{after_add_nullification, after_set_floor}
use Rattle.simplex_voter.specs.Facts.{Settings, StateFacts, Elect, new_facts, round_at, round_of, round_number, with_round}
use Rattle.simplex_voter.specs.Leaders.{has_leader, with_leader_at}
use Rattle.simplex_voter.specs.Refusals.{takes_round}
use Rattle.simplex_voter.specs.StateAnswers.{nullification_of}
use Rattle.simplex_voter.specs.ViewEntry.{at_moment, with_view_entered}
use Rattle.simplex_view_maps.proofs.Gaps.{next_above}
use Rattle.simplex_record.specs.Events as event
use Rattle.simplex_record.specs.Events.{Event, after_event}
use Rattle.simplex_record.proofs.Paths.{event_path, asked_of_all}
use Rattle.simplex_record.proofs.Steps as step
use Rattle.simplex_record.proofs.Steps.{RoundStep, nullification_by}
use Rattle.simplex_member.specs.Calls.{CallFacts, AddNullification, ReplyFacts}
use Rattle.simplex_member.specs.CallSemantics.{after_call}
use Rattle.simplex_member.specs.MemberFacts.{MemberFacts, IsCall}
use Rattle.simplex_member.specs.OutstandingWork.{OutstandingWork}
use Rattle.laws_safety.specs.LifetimeLaws.{WhileAlive}
use Rattle.laws_safety.specs.MemberHistory.{HasHistory}
use Rattle.laws_safety.specs.Traces.{TraceEvent}
use Rattle.laws_safety.proofs.frames.EachRound.{IsGone, rounds_or_gone}
use Rattle.laws_safety.proofs.frames.Fresh.{IsNewState}
use Rattle.laws_safety.proofs.frames.NoLowerViews.{event_goes, call_goes}
use Rattle.laws_safety.proofs.frames.RunsKeep.{HoldsIn, run_induction}
use Rattle.laws_safety.proofs.frames.Sound.{event_ahead, entered_reaches}
use Rattle.laws_safety.proofs.lives.WithinLives.{each_call}
use Rattle.laws_safety.proofs.records.RunsLawful.{keep_terms}
use Rattle.engine_outbox.specs.CertificateCalls.{certificate_call}
use Rattle.simplex_engine.specs.Admission.{admits}
use Rattle.laws_rounds.specs.Deliveries.{IsLater, is_declined}
use Rattle.laws_rounds.specs.Finality.{HasLeft}
use Rattle.laws_rounds.proofs.LifetimeCalls.{alive_anyway, call_lives}
use Rattle.laws_rounds.proofs.Spread.{IsShownByAll}
use Rattle.laws_rounds.proofs.TurnedAway.{and_false, untaken}

module _ {K L D : Type 0} where
  -- the current view lies above the view's term
  abbrev pub Leaves : StateFacts K L D → ℕ → Type 0
  Leaves x v = next_term_start x.terms.term_length v ≤ x.current

  -- it does of each view with a nullification
  abbrev pub NullifiedLeft : StateFacts K L D → Type 0
  NullifiedLeft x = (v : ℕ) (c : NullificationFacts) → (round_of x v).nullification ≡ Some c → Leaves x v

  -- besides, it lies above the last finalized one
  pub record IsPast (x : StateFacts K L D) : Type 0 where
    pub some : 0 < x.terms.term_length
    pub ahead : x.finalized < x.current
    pub left : NullifiedLeft x

-- ---- an event

module _ {K L D : Type 0} (elect : Elect L) where
  leader_stays : (x : StateFacts K L D) (v member : ℕ) → (with_leader_at x v member).current ≡ x.current
  leader_stays x v member = by_test (has_leader x v)
    where
      by_test : (b : Bool)
          → (if b then x else with_round x v (record (round_of x v) { leader = leader_at x.members member })).current
          ≡ x.current
      by_test true = refl
      by_test false = refl

  nullification_passes : (x : StateFacts K L D) (c : NullificationFacts) (now : ℕ)
      → next_term_start x.terms.term_length c.round.view ≤ (after_add_nullification elect x c now).current
  nullification_passes x c now =
      let next = next_term_start x.terms.term_length c.round.view in
      let entered = with_view_entered (at_moment x now) next now in
      subst (λ n. next ≤ n)
      (sym (leader_stays entered next (elect entered.elector (round_number entered next) (Some c.bytes))))
      (entered_reaches (at_moment x now) next now)

module _ {K L D : Type 0} (same : D → D → Bool) (elect : Elect L) (x : StateFacts K L D) where
  enters : (e : Event K D) (c : NullificationFacts) → nullification_by e ≡ Some c
      → next_term_start x.terms.term_length c.round.view ≤ (after_event same elect x e).current
  enters (event.AddNullification n now) c is =
      let one : n ≡ c = cc in
      subst (λ (k : NullificationFacts). next_term_start x.terms.term_length k.round.view
      ≤ (after_add_nullification elect x n now).current) one (nullification_passes elect x n now)
  enters _ c is = absurd (false≢true (ap is_some is))

module _ {K L D : Type 0} (same : D → D → Bool) (elect : Elect L) (x : StateFacts K L D) (e : Event K D) where
  abbrev after : StateFacts K L D
  after = after_event same elect x e

  -- the nullification of a view is as before, or the current view lies above its term
  abbrev StaysOrLeft : ℕ → RoundFacts K D → RoundFacts K D → Type 0
  StaysOrLeft v r s = (s.nullification ≡ r.nullification) ⊎ (next_term_start x.terms.term_length v ≤ after.current)

  stays_on : (v : ℕ) (r s t : RoundFacts K D) → StaysOrLeft v r s → StaysOrLeft v s t → StaysOrLeft v r t
  stays_on v r s t (inl p) (inl q) = inl (q ∙ p)
  stays_on v r s t (inr left) q = inr left
  stays_on v r s t p (inr left) = inr left

  change_left : (y : StateFacts K L D) (v : ℕ) (r s : RoundFacts K D) → RoundStep same elect x e y v r s
      → StaysOrLeft v r s
  change_left y v r s (step.Nullified c says at none) =
      inr (subst (λ u. next_term_start x.terms.term_length u ≤ after.current) at (enters same elect x e c says))
  change_left y v r s _ = inl refl

  none_there : (v : ℕ) → IsGone x after v → (round_of after v).nullification ≡ None
  none_there v gone =
      ap (λ o. (unwrap_or o (new_round after.me after.members (round_number after v))).nullification) gone.untracked

  left_before : NullifiedLeft x → (v : ℕ) (c : NullificationFacts) → (round_of after v).nullification ≡ Some c
      → next_term_start x.terms.term_length v ≤ after.current
  left_before left v c is =
      elim (rounds_or_gone same elect x e 0 StaysOrLeft stays_on change_left
      (event_path same elect 0 x e (omega arith) (asked_of_all x e)) v) [
        | inl (inl stays) ↦
            let above = left v c (sym stays ∙ is) in
            let goes = (event_goes same elect x e).current in
            omega (arith, above, goes)
        | inl (inr passed) ↦ passed
        | inr gone ↦ absurd (false≢true (ap is_some (sym (none_there v gone.1) ∙ is)))
      ]

  left_after : NullifiedLeft x → NullifiedLeft after
  left_after left v c is =
      subst (λ t. next_term_start t.term_length v ≤ after.current) (sym (event_goes same elect x e).terms)
      (left_before left v c is)

module _ {K L D : Type 0} (same : D → D → Bool) (elect : Elect L) where
  event_past : (x : StateFacts K L D) (e : Event K D) → IsPast x → IsPast (after_event same elect x e)
  event_past x e is = record {
    some = subst (λ t. 0 < t.term_length) (sym (event_goes same elect x e).terms) is.some;
    ahead = event_ahead same elect x e (inl is.ahead);
    left = left_after same elect x e is.left;
  }

  new_past : (settings : Settings) (me : Option ℕ) (members : List K) (elector : L) (terms : Terms) (early : Bool)
      (floor : FloorFacts D) (now : ℕ) → 0 < terms.term_length
      → IsPast (after_set_floor same elect (new_facts settings me members elector terms early) floor now)
  new_past settings me members elector terms early floor now some =
      let x : StateFacts K L D = new_facts settings me members elector terms early in
      let e : Event K D = event.SetFloor floor now in
      record {
        some = subst (λ t. 0 < t.term_length) (sym (event_goes same elect x e).terms) some;
        ahead = event_ahead same elect x e (inr (refl, refl));
        left = left_after same elect x e (λ v c is. absurd (false≢true (ap is_some is)));
      }

  floor_past : (term_length : ℕ) (x : StateFacts K L D) (floor : FloorFacts D) (now : ℕ)
      → IsNewState term_length x → IsPast (after_set_floor same elect x floor now)
  floor_past term_length x floor now fresh =
      subst (λ y. IsPast (after_set_floor same elect y floor now)) (sym fresh.fresh)
      (new_past x.settings x.me x.members x.elector x.terms x.elects_early floor now
      (subst (λ n. 0 < n) (sym fresh.terms) fresh.some))

  -- so is each state of a member's history
  history_past : (term_length i : ℕ) (all : List (TraceEvent D)) (m : MemberFacts K L D)
      → HasHistory same elect term_length i all m → HoldsIn IsPast m.life
  history_past term_length i all m done =
      let s = done.execution in
      run_induction same elect term_length IsPast (floor_past term_length) event_past s.start s.steps s.replies m
      done.executed.lives.first.terms (keep_terms term_length i s.steps done.executed.lives.later) done.executed.run

-- ---- a nullification that is passed in

above : (T v : ℕ) → 0 < T → v < next_term_start T v
above T zero some = omega arith
above T (suc v) some = next_above T (suc v) some (omega arith)

-- what is so of two states, the first of which is known, of a member that has not failed
alive_from : {K L D : Type 0} {P : StateFacts K L D → Type 0} {Q R : StateFacts K L D → StateFacts K L D → Type 0}
    (first last : Option (StateFacts K L D)) → HoldsIn P first → WhileAlive Q first last
    → ((x y : StateFacts K L D) → P x → Q x y → R x y) → WhileAlive R first last
alive_from first None known is each = tt
alive_from None (Some y) known is each = absurd is
alive_from (Some x) (Some y) known is each = each x y known is

module _ {K L D : Type 0} (same : D → D → Bool) (elect : Elect L) (c : NullificationFacts) where
  -- the current view lies above the view's term, which has views
  abbrev Passed : StateFacts K L D → Type 0
  Passed y = (0 < y.terms.term_length) × Leaves y c.round.view

  -- if the call adds it, and is not declined
  abbrev PassesBy : CallFacts D → ReplyFacts K D → StateFacts K L D → StateFacts K L D → Type 0
  PassesBy call replied x y =
      0 < x.terms.term_length → (now : ℕ) → call ≡ AddNullification c now → is_declined replied ≡ false → Passed y

  passed : (x : StateFacts K L D) (o : OutstandingWork K D) (now : ℕ) → 0 < x.terms.term_length
      → Passed (after_call same elect x o (AddNullification c now))
  passed x o now some =
      let y = after_call same elect x o (AddNullification c now) in
      let terms = (call_goes same elect x o (AddNullification c now)).terms in (
        subst (λ t. 0 < t.term_length) (sym terms) some,
        subst (λ t. next_term_start t.term_length c.round.view ≤ y.current) (sym terms)
            (nullification_passes elect x c now),
      )

  added_passes : (now : ℕ) (m left : MemberFacts K L D) (replied : ReplyFacts K D)
      → IsCall same elect m (AddNullification c now) replied left
      → WhileAlive (PassesBy (AddNullification c now) replied) m.life left.life
  added_passes now m left replied is_call =
      each_call same elect PassesBy
      (λ call fault x some at is taken. absurd (true≢false taken))
      (λ call x some at is taken. absurd (true≢false taken))
      (λ call x o allowed some at is taken. subst (λ k. Passed (after_call same elect x o k)) (sym is)
      (passed x o at some))
      m (AddNullification c now) replied left is_call

-- one that is not admitted, of the state's epoch
module _ {K L D : Type 0} (x : StateFacts K L D) (c : NullificationFacts) (past : IsPast x)
    (of_epoch : c.round.epoch ≡ x.settings.epoch) where
  abbrev view : ℕ
  view = c.round.view

  abbrev IsLeft : Type 0
  IsLeft = (view < x.current) × ((view ≤ x.finalized) ⊎ Leaves x view)

  by_term : Leaves x view → IsLeft
  by_term leaves = (let over = above x.terms.term_length view past.some in omega (arith, over, leaves), inr leaves)

  by_final : view ≤ x.finalized → IsLeft
  by_final low = (let ahead = past.ahead in omega (arith, ahead, low), inl low)

  known : is_none (nullification_of x view) ≡ false → IsLeft
  known has = by_round (round_at x view) refl has
    where
      by_certificate : (r : RoundFacts K D) → round_at x view ≡ Some r → (n : Option NullificationFacts)
          → r.nullification ≡ n → is_none n ≡ false → IsLeft
      by_certificate r at None is has = absurd (true≢false has)
      by_certificate r at (Some n) is has = by_term (past.left view n
          (ap (λ o. (unwrap_or o (new_round x.me x.members (round_number x view))).nullification) at ∙ is))

      by_round : (o : Option (RoundFacts K D)) → round_at x view ≡ o
          → is_none (option_and_then (λ (r : RoundFacts K D). r.nullification) o) ≡ false → IsLeft
      by_round None at has = absurd (true≢false has)
      by_round (Some r) at has = by_certificate r at r.nullification refl has

  untaken_left : takes_round x c.round ≡ false → IsLeft
  untaken_left away =
      let ahead = past.ahead in
      elim (untaken x c.round (omega (arith, ahead)) of_epoch away)
      [ inl none ↦ by_final (omega (arith, none)) | inr low ↦ by_final (omega (arith, low)) ]

  turned_away : admits x (Nullified c) ≡ false → IsLeft
  turned_away away = elim (and_false (takes_round x c.round) (is_none (nullification_of x view)) away)
      [ inl first ↦ untaken_left first | inr second ↦ known second ]

-- ---- what a nullification shows

module _ {K L D : Type 0} (same : D → D → Bool) (elect : Elect L) where
  added_shows : (c : CertificateFacts D) (now : ℕ) (m left : MemberFacts K L D) (replied : ReplyFacts K D)
      → HoldsIn IsPast m.life → IsCall same elect m (certificate_call c now) replied left
      → is_declined replied ≡ false → WhileAlive (λ x. HasLeft c) m.life left.life
  added_shows (Notarized c) now m left replied past is_call taken = alive_anyway m.life left.life
      (call_lives same elect m _ replied left is_call) (λ x y goes. tt)
  added_shows (Finalized c) now m left replied past is_call taken = alive_anyway m.life left.life
      (call_lives same elect m _ replied left is_call) (λ x y goes. tt)
  added_shows (Nullified c) now m left replied past is_call taken =
      alive_from {P = IsPast} m.life left.life past (added_passes same elect c now m left replied is_call)
      (λ x y known passes epoch. (
      let by = passes known.some now refl taken in
      let over = above y.terms.term_length c.round.view by.0 in
      let leaves = by.1 in
      (omega (arith, over, leaves), inr leaves)))

  away_shows : (c : CertificateFacts D) (x : StateFacts K L D) → IsPast x → admits x c ≡ false → HasLeft c x
  away_shows (Notarized c) x past away = tt
  away_shows (Finalized c) x past away = tt
  away_shows (Nullified c) x past away = λ epoch. turned_away x c past epoch away

  lasts_shows : (c : CertificateFacts D) (x y : StateFacts K L D) → IsLater x y → HasLeft c x → HasLeft c y
  lasts_shows (Notarized c) x y goes has = tt
  lasts_shows (Finalized c) x y goes has = tt
  lasts_shows (Nullified c) x y goes has = λ epoch. (
      let before = has (epoch ∙ ap (λ s. s.epoch) goes.settings) in
      let low = before.0 in
      let current = goes.views.current in
      let final = goes.views.finalized in (
        omega (arith, low, current),
        elim before.1 [
          | inl reached ↦ inl (omega (arith, reached, final))
          | inr leaves ↦ inr (subst (λ t. next_term_start t.term_length c.round.view ≤ y.current) (sym goes.terms)
              (omega (arith, leaves, current)))
        ],
      ))

  pub nullifications_show : IsShownByAll {K = K} same elect HasLeft IsPast
  nullifications_show = record {
    at_all = history_past same elect;
    added = added_shows;
    turned_away = away_shows;
    lasts = lasts_shows;
  }
