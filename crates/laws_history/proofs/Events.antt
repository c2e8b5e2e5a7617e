-- Each event keeps that a history shows what a state knows.
use Rattle.std.proofs.Common.{◌≡◌, ◌⊎◌, inl, inr, refl, ap, sym, ◌∙◌, subst, ℕ, ◌+◌, ◌-◌, ◌<◌, ◌≤◌, max, Bool, true, false, ◌&&◌, ◌||◌, not, eqb, if◌then◌else◌, List, [], ◌∷◌, Option, Some, None, is_some, unwrap_or, arith}
use Rattle.std.specs.Prelude.{T}
use Rattle.std.specs.Option.{option_or, option_map_or}
use Rattle.std.proofs.lemmas.Bool.{cases_eq, cases_lt, ne_eqb}
use Rattle.simplex_types.specs.Config.{Finalized}
use Rattle.simplex_types.specs.Certificates.{ArtifactFacts, Verdict}
use Rattle.simplex_round.specs.Round.{RoundFacts, is_judged}
use Rattle.simplex_voter.specs.Facts.{StateFacts, Elect, round_at, round_of, is_tracked}
use Rattle.simplex_voter.specs.Certification.{takes_verdict}
use Rattle.simplex_voter.proofs.Gaps.{and_parts}
use Rattle.simplex_member.specs.OutstandingWork.{is_among}
use Rattle.simplex_record.specs.Events.{Event, IsEvent, after_event, SetFloor, AddFinalization, Certified, Replay, finalized_by_event, is_prune, covers_from}
use Rattle.laws_history.specs.History.{History, with_event}
use Rattle.laws_history.specs.HistoryFolds.{or_new, verdict_of_event, entered_by, moment_by, latest, sets_genesis, verdict_in, is_notarized_in, finalized_by_events, current_in, kept_in}
use Rattle.laws_history.specs.OwnWork.{was_done, casts_nullify}
use Rattle.laws_history.specs.LeaderHistory.{comes_to_track}
use Rattle.laws_history.specs.WorkRequests.{names}
use Rattle.laws_history.specs.Moments.{enters}
use Rattle.laws_history.specs.HistoryFacts.{DeterminesState, kept_of, comes_up}
use Rattle.laws_history.proofs.EventFacts.{FollowsEvent, left_from}
use Rattle.laws_safety.proofs.frames.InOrder.{event_in_order}
use Rattle.laws_history.proofs.UnchangedHistories.{from_T}
use Rattle.laws_history.proofs.ReplayEvents.{event_follows}
use Rattle.laws_history.proofs.EventsWorked.{event_works}
use Rattle.laws_history.proofs.HistoryRounds.{round_further}
use Rattle.laws_history.proofs.ShownWork.{done_further, known_further}
use Rattle.laws_history.proofs.Worked.{WorkFollows}
use Rattle.laws_safety.proofs.frames.Untracked.{event_clear, event_dropped}
use Rattle.laws_history.proofs.DroppedViews.{covers_above, casts_above, nullified_dropped, votes_dropped}
use Rattle.simplex_voter.specs.Windows.{min_active}

-- the sums by themselves

module _ {K D : Type 0} where
  -- a finalization enters the next view
  passes : (term_length : ℕ) (is_notarized : ℕ → Bool) (e : Event K D)
      → (finalized_by_event e ≡ 0) ⊎ (finalized_by_event e < entered_by term_length is_notarized e)
  passes t n (SetFloor (Finalized c) now) = inr (omega arith)
  passes t n (AddFinalization c now) = inr (omega arith)
  passes t n _ = inl refl

  pub finalized_passed : (term_length : ℕ) (history : List (Event K D))
      → (finalized_by_events history ≡ 0) ⊎ (finalized_by_events history < current_in term_length history)
  finalized_passed t [] = inl refl
  finalized_passed t (e ∷ before) = joined (finalized_passed t before) (passes t (is_notarized_in before) e)
    where
      joined : ((finalized_by_events before ≡ 0) ⊎ (finalized_by_events before < current_in t before))
          → ((finalized_by_event e ≡ 0) ⊎ (finalized_by_event e < entered_by t (is_notarized_in before) e))
          → (finalized_by_events (e ∷ before) ≡ 0) ⊎ (finalized_by_events (e ∷ before) < current_in t (e ∷ before))
      joined (inl a) (inl b) = inl (omega arith)
      joined (inl a) (inr b) = inr (omega arith)
      joined (inr a) (inl b) = inr (omega arith)
      joined (inr a) (inr b) = inr (omega arith)

  pub kept_finalized : (retention : ℕ) (history : List (Event K D))
      → kept_in retention history ≤ finalized_by_events history
  kept_finalized r [] = omega arith
  kept_finalized r (e ∷ before) =
      let behind : kept_in r before ≤ finalized_by_events before = kept_finalized r before in
      let now : (if is_prune e then finalized_by_events before - r else 0) ≤ finalized_by_events before =
      lower (is_prune e) in
      omega arith
    where
      lower : (b : Bool) → (if b then finalized_by_events before - r else 0) ≤ finalized_by_events before
      lower true = omega arith
      lower false = omega arith

  kept_active : (retention : ℕ) (history : List (Event K D))
      → kept_in retention history ≤ finalized_by_events history - retention
  kept_active r [] = omega arith
  kept_active r (e ∷ before) =
      let behind : kept_in r before ≤ finalized_by_events before - r = kept_active r before in
      let now : (if is_prune e then finalized_by_events before - r else 0) ≤ finalized_by_events before - r =
      lower (is_prune e) in
      omega (arith, behind, now)
    where
      lower : (b : Bool) → (if b then finalized_by_events before - r else 0) ≤ finalized_by_events before - r
      lower true = omega arith
      lower false = omega arith

  kept_reached : (retention term_length : ℕ) (history : List (Event K D)) (current : ℕ)
      → current ≡ current_in term_length history → kept_in retention history ≤ current
  kept_reached r t history current is =
      let low = kept_finalized r history in
      elim (finalized_passed t history)
      [ inl none ↦ omega (arith, low, none) | inr above ↦ omega (arith, low, above, is) ]

  moment_follows : (o : Option ℕ) (history : List (Event K D))
      → unwrap_or o (unwrap_or (latest moment_by history) 0) ≡ unwrap_or (option_or o (latest moment_by history)) 0
  moment_follows None history = refl
  moment_follows (Some now) history = refl

module _ {K L D : Type 0} (same : D → D → Bool) (elect : Elect L) (history : History K L D) (x : StateFacts K L D)
    (shows : DeterminesState same elect history x) where
  -- a view for which a verdict may be passed is tracked where a notarization was passed in
  tracked_notarized : (v : ℕ) (success : Bool) → takes_verdict x v success ≡ true → kept_of history ≤ v
      → is_tracked x v ≡ is_notarized_in history.events v
  tracked_notarized v success takes kept = notarized (round_at x v) refl
      ∙ ap (λ (r : RoundFacts K D). is_some r.notarization) (shows.rounds v kept)
    where
      notarized : (o : Option (RoundFacts K D)) → round_at x v ≡ o
          → is_tracked x v ≡ is_some (round_of x v).notarization
      notarized None none = rw none refl
      notarized (Some r) found =
          let test : (is_some r.notarization && not (is_judged (not success) r.certification)) ≡ true =
          sym (ap (λ o. option_map_or (λ s. is_some s.notarization && not (is_judged (not success) s.certification))
          o true) found) ∙ (and_parts _ _ takes).1 in
          rw found (sym (and_parts (is_some r.notarization) _ test).0)

  judged_alike : (e : Event K D) → IsEvent x e → (v : ℕ) → kept_of history ≤ v
      → verdict_of_event (is_tracked x) v e ≡ verdict_of_event (is_notarized_in history.events) v e
  judged_alike (Certified w success now) takes v kept = by_view (cases_eq v w)
    where
      by_view : ((v ≡ w) ⊎ (v ≡ w → ⊥)) → (if eqb v w && is_tracked x w then Some success else None)
          ≡ (if eqb v w && is_notarized_in history.events w then Some success else None)
      by_view (inl here) = ap (λ b. if eqb v w && b then Some success else None)
          (tracked_notarized w success takes (subst (λ u. kept_of history ≤ u) here kept))
      by_view (inr apart) = rw (ne_eqb v w apart) refl
  judged_alike (Replay e) takes v kept = replays e
    where
      replays : (a : ArtifactFacts D) → verdict_of_event {K = K} (is_tracked x) v (Replay a) ≡ verdict_of_event {K = K}
          (is_notarized_in history.events) v (Replay a)
      replays (Verdict round success) = refl
      replays _ = refl
  judged_alike _ takes v kept = refl

  entered_alike : (t : ℕ) → x.current ≡ current_in t history.events → (e : Event K D) → IsEvent x e
      → max x.current (entered_by t (is_tracked x) e) ≡ max x.current (entered_by t (is_notarized_in history.events) e)
  entered_alike t current (Certified w true now) takes = by_kept (cases_lt w (kept_of history))
    where
      already : (b : Bool) → w < x.current → max x.current (if b then w + 1 else 0) ≡ x.current
      already true below = omega arith
      already false below = omega arith

      passed : w < kept_of history → w < x.current
      passed dropped =
          let low = kept_finalized history.fresh.settings.view_retention history.events in
          elim (finalized_passed t history.events) [
            | inl none ↦ absurd (omega (arith, low, none, dropped))
            | inr above ↦ omega (arith, low, above, dropped, current)
          ]

      by_kept : ((w < kept_of history) ⊎ (kept_of history ≤ w))
          → max x.current (if is_tracked x w then w + 1 else 0) ≡ max x.current
          (if is_notarized_in history.events w then w + 1 else 0)
      by_kept (inl dropped) = already (is_tracked x w) (passed dropped)
          ∙ sym (already (is_notarized_in history.events w) (passed dropped))
      by_kept (inr kept) = ap (λ b. max x.current (if b then w + 1 else 0)) (tracked_notarized w true takes kept)
  entered_alike t current (Certified w false now) takes = refl
  entered_alike t current _ takes = refl

  pub event_shown : ((d e : D) → same d e ≡ true → d ≡ e) → (e : Event K D) → IsEvent x e
      → DeterminesState same elect (with_event history e) (after_event same elect x e)
  event_shown decides e allowed = record {
    facts = ap (λ z. after_event same elect z e) shows.facts;
    dropped = λ some v below. gone some v below (cases_lt v (kept_in fresh.settings.view_retention events));
    nullified_dropped = λ v below. unnoted v below (cases_lt v (left_from x e));
    votes_dropped = λ v below. unvoted v below (cases_lt v (left_from x e));
    in_order = from_T _ (event_in_order same elect x e (subst T (sym shows.in_order) tt));
    settings = follows.settings ∙ shows.settings;
    terms = follows.terms ∙ shows.terms;
    genesis = follows.genesis ∙ ap (option_or (sets_genesis e)) shows.genesis;
    current =
        follows.current
        ∙ ap (λ t. max x.current (entered_by t.term_length (is_tracked x) e)) shows.terms
        ∙ entered_alike fresh.terms.term_length shows.current e allowed
        ∙ ap (λ n. max n (entered_by fresh.terms.term_length (is_notarized_in events) e)) shows.current;
    finalized = follows.finalized ∙ ap (λ n. max n (finalized_by_event e)) shows.finalized;
    moment = follows.moment ∙ ap (unwrap_or (moment_by e)) shows.moment ∙ moment_follows (moment_by e) events;
    nullified = λ v kept. follows.nullified v (left v kept)
        ∙ ap (λ b. covers_from v e || b) (shows.nullified v (earlier v kept));
    nullify_votes = λ v kept. follows.nullify_votes v (left v kept)
        ∙ done (casts_nullify v) (is_among v x.nullify_votes) (shows.nullify_votes v (earlier v kept));
    verdict = λ v kept.
        ap (λ k. k.verdict) (follows.rounds v (left v kept))
        ∙ ap (λ o. or_new o (verdict_of_event (is_tracked x) v e)) (shows.verdict v (earlier v kept))
        ∙ ap (or_new (verdict_in v events)) (judged_alike e allowed v (earlier v kept));
    me = works.me ∙ shows.me;
    members = works.members ∙ shows.members;
    elector = works.elector ∙ shows.elector;
    elects_early = works.elects_early ∙ shows.elects_early;
    failed = works.failed ∙ shows.failed;
    named = λ v. works.named v ∙ known_further same elect history x shows.facts e (names elect v) false
        (is_among v x.named) (shows.named v);
    tracked = λ v kept. ap (λ k. k.tracked) (works.work v (left v kept))
        ∙ tracked_further (is_some (enters v x e)) (comes_to_track same elect v x e) (is_tracked x v)
        ∙ done (comes_up same elect v) (is_tracked x v) (shows.tracked v (earlier v kept));
    rounds = λ v kept. round_further same elect history x shows.facts shows.settings shows.terms e
        (after_event same elect x e) v (shows.rounds v (earlier v kept)) (follows.rounds v (left v kept))
        (works.work v (left v kept));
  }
    where
      fresh : StateFacts K L D
      fresh = history.fresh

      events : List (Event K D)
      events = history.events

      follows : FollowsEvent same elect e x (after_event same elect x e)
      follows = event_follows same decides elect x e allowed

      works : WorkFollows same elect e x (after_event same elect x e)
      works = event_works same elect x e

      earlier : (v : ℕ) → kept_in fresh.settings.view_retention (e ∷ events) ≤ v
          → kept_in fresh.settings.view_retention events ≤ v
      earlier v kept = omega (arith, kept)

      left : (v : ℕ) → kept_in fresh.settings.view_retention (e ∷ events) ≤ v → left_from x e ≤ v
      left v kept =
          let part : (if is_prune e then finalized_by_events events - fresh.settings.view_retention else 0) ≤ v =
          omega (arith, kept) in
          subst (λ s. (if is_prune e then x.finalized - s.view_retention else 0) ≤ v) (sym shows.settings)
          (subst (λ n. (if is_prune e then n - fresh.settings.view_retention else 0) ≤ v) (sym shows.finalized)
          part)

      lowest : (n : ℕ) → n ≡ finalized_by_events events - fresh.settings.view_retention → n ≡ min_active x
      lowest n is = is ∙ ap (λ m. m - fresh.settings.view_retention) (sym shows.finalized)
          ∙ ap (λ s. x.finalized - s.view_retention) (sym shows.settings)

      active : kept_in fresh.settings.view_retention events ≤ min_active x
      active = omega (
        arith,
        kept_active fresh.settings.view_retention events,
        lowest (finalized_by_events events - fresh.settings.view_retention) refl,
      )

      reached : kept_in fresh.settings.view_retention events ≤ x.current
      reached = kept_reached fresh.settings.view_retention fresh.terms.term_length events x.current shows.current

      gone : 0 < fresh.terms.term_length → (v : ℕ) → v < kept_in fresh.settings.view_retention (e ∷ events)
          → ((v < kept_in fresh.settings.view_retention events) ⊎ (kept_in fresh.settings.view_retention events ≤ v))
          → is_tracked (after_event same elect x e) v ≡ false
      gone some v below (inl earlier_below) =
          let low = kept_in fresh.settings.view_retention events in
          let terms : 0 < x.terms.term_length = subst (λ t. 0 < t.term_length) (sym shows.terms) some in
          (event_clear same elect low x active reached terms (record { views = λ w under. shows.dropped some w under })
          e allowed).views v earlier_below
      gone some v below (inr from) =
          let part : v < (if is_prune e then finalized_by_events events - fresh.settings.view_retention else 0) =
          omega (arith, below, from) in
          event_dropped same elect x e v (subst (λ n. v < (if is_prune e then n else 0))
          (lowest (finalized_by_events events - fresh.settings.view_retention) refl) part)

      -- a view that is dropped, but not by this event
      earlier_gone : (v : ℕ) → v < kept_in fresh.settings.view_retention (e ∷ events) → left_from x e ≤ v
          → v < kept_in fresh.settings.view_retention events
      earlier_gone v below from =
          let part : (if is_prune e then finalized_by_events events - fresh.settings.view_retention else 0) ≤ v =
          subst (λ n. (if is_prune e then n else 0) ≤ v)
          (sym (lowest (finalized_by_events events - fresh.settings.view_retention) refl)) from in
          omega (arith, below, part)

      unnoted : (v : ℕ) → v < kept_in fresh.settings.view_retention (e ∷ events)
          → ((v < left_from x e) ⊎ (left_from x e ≤ v)) → is_among v (after_event same elect x e).nullified ≡ false
      unnoted v below (inl dropped) = nullified_dropped same elect x e v dropped
      unnoted v below (inr from) =
          let gone_before = earlier_gone v below from in
          follows.nullified v from ∙ ap (λ b. b || is_among v x.nullified)
          (covers_above (kept_in fresh.settings.view_retention events) x active reached e allowed v gone_before)
          ∙ shows.nullified_dropped v gone_before

      unvoted : (v : ℕ) → v < kept_in fresh.settings.view_retention (e ∷ events)
          → ((v < left_from x e) ⊎ (left_from x e ≤ v)) → is_among v (after_event same elect x e).nullify_votes ≡ false
      unvoted v below (inl dropped) = votes_dropped same elect x e v dropped
      unvoted v below (inr from) =
          let gone_before = earlier_gone v below from in
          follows.nullify_votes v from ∙ ap (λ b. b || is_among v x.nullify_votes)
          (casts_above (kept_in fresh.settings.view_retention events) x active reached e allowed v gone_before)
          ∙ shows.votes_dropped v gone_before

      done : (does : StateFacts K L D → Event K D → Bool) (b : Bool) → b ≡ was_done same elect does fresh events
          → (does x e || b) ≡ was_done same elect does fresh (e ∷ events)
      done does b is = done_further same elect history x shows.facts e does b is

      tracked_further : (a b c : Bool) → (a || (b || c)) ≡ ((a || b) || c)
      tracked_further true b c = refl
      tracked_further false b c = refl
