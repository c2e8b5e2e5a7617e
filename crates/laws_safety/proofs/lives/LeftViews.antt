-- For `states_time_out`.
-- A view that is certified or decided to be finalized lies below the current one, unless a replay settled it.
use Rattle.std.proofs.Common.{◌≡◌, refl, ap, sym, ◌∙◌, subst, ℕ, ◌<◌, ◌⊎◌, inl, inr, Bool, true, false, ◌||◌, List, [], ◌∷◌, Some, is_some, unwrap_or, arith}
use Rattle.std.specs.List.{list_any}
use Rattle.std.proofs.lemmas.Bool.{false≢true, eq-eqb, or_left, or_right}
use Rattle.simplex_types.specs.Certificates.{ArtifactFacts, FinalizeVote, Verdict}
use Rattle.simplex_types.specs.Config.{FloorFacts}
use Rattle.simplex_round.specs.Round.{RoundFacts, new_round, is_certified, is_finalize}
use Rattle.simplex_voter.specs.Facts.{StateFacts, Elect, round_of, round_number, is_tracked}
use Rattle.simplex_voter.specs.Acceptance.{after_set_floor}
use Rattle.simplex_voter.specs.Rules.{may_finalize}
use Rattle.simplex_voter.specs.Timeouts.{has_timeout}
use Rattle.simplex_voter.proofs.Rules.{finalize_parts}
use Rattle.simplex_record.specs.Events as event
use Rattle.simplex_record.specs.Events.{Event, after_event, is_prune}
use Rattle.simplex_record.specs.Start.{Setup, new_state}
use Rattle.simplex_record.proofs.Rounds.{armed_finalize, latched_finalize, aborted_certified}
use Rattle.simplex_record.proofs.Paths.{event_path, asked_of_all, tracked_by}
use Rattle.simplex_record.proofs.Steps as step
use Rattle.simplex_record.proofs.Steps.{RoundStep, verdict_by, finalize_by}
use Rattle.laws_safety.specs.StateLaws.{settles, after_events, TimesOutUnlessSettled}
use Rattle.laws_safety.proofs.frames.EachRound.{IsGone, rounds_or_gone}
use Rattle.laws_safety.proofs.frames.NoLowerViews.{event_goes}
use Rattle.laws_safety.proofs.lives.ViewTimeouts.{TimesOut, new_times_out, event_times_out, says_timeout}
use Rattle.laws_safety.proofs.votes.ShownVotesByCalls.{certified_passes}

-- a verdict and a decision of a round were there before, or are the event's
pub record Decides {K D : Type 0} (e : Event K D) (v : ℕ) (r s : RoundFacts K D) : Type 0 where
  pub certified : is_certified s.certification ≡ true
      → (is_certified r.certification ≡ true) ⊎ (verdict_by e ≡ Some (v, true))
  pub finalize : is_finalize s.decision ≡ true → (is_finalize r.decision ≡ true) ⊎ (finalize_by e ≡ Some v)

module _ {K L D : Type 0} (same : D → D → Bool) (elect : Elect L) (begun : StateFacts K L D) (e : Event K D) where
  decides_on : (v : ℕ) (r s t : RoundFacts K D) → Decides e v r s → Decides e v s t → Decides e v r t
  decides_on v r s t p q = record {
    certified = λ is. elim (q.certified is) [ inl before ↦ p.certified before | inr brings ↦ inr brings ];
    finalize = λ is. elim (q.finalize is) [ inl before ↦ p.finalize before | inr brings ↦ inr brings ];
  }

  change_decides : (y : StateFacts K L D) (v : ℕ) (r s : RoundFacts K D) → RoundStep same elect begun e y v r s
      → Decides e v r s
  change_decides y v r s (step.Judged true says fits) = record { certified = λ is. inr says; finalize = λ is. inl is }
  change_decides y v r s (step.Judged false says fits) =
      record { certified = λ is. absurd (false≢true is); finalize = λ is. inl is }
  change_decides y v r s (step.Certifying token says fits) =
      record { certified = λ is. absurd (false≢true is); finalize = λ is. inl is }
  change_decides y v r s (step.Ended under_way) =
      record { certified = λ is. inl (sym (aborted_certified r.certification) ∙ is); finalize = λ is. inl is }
  change_decides y v r s (step.NullifyDecided says fits) =
      record { certified = λ is. inl is; finalize = λ is. absurd (false≢true is) }
  change_decides y v r s (step.FinalizeDecided says fits) =
      record { certified = λ is. inl is; finalize = λ is. inr says }
  change_decides y v r s (step.Entered now) =
      record { certified = λ is. inl is; finalize = λ is. inl (sym (armed_finalize r.decision _ _) ∙ is) }
  change_decides y v r s (step.Latched now reason) =
      record { certified = λ is. inl is; finalize = λ is. inl (sym (latched_finalize r.decision (now, reason)) ∙ is) }
  change_decides y v r s (step.Retried now interval says awaits) =
      record { certified = λ is. inl is; finalize = λ is. absurd (false≢true is) }
  change_decides y v r s _ = record { certified = λ is. inl is; finalize = λ is. inl is }

-- each view that is certified or decided to be finalized is left, or settled
pub record LeftUnless {K L D : Type 0} (settled : ℕ → Type 0) (x : StateFacts K L D) : Type 0 where
  pub certified : (v : ℕ) → is_certified (round_of x v).certification ≡ true → (v < x.current) ⊎ settled v
  pub finalize : (v : ℕ) → is_finalize (round_of x v).decision ≡ true → (v < x.current) ⊎ settled v

module _ {K L D : Type 0} (x : StateFacts K L D) (settled others : ℕ → Type 0)
    (leaves : (v : ℕ) → settled v → (v < x.current) ⊎ others v) where
  pub left_but : LeftUnless settled x → LeftUnless others x
  left_but left = record {
    certified = λ v is. elim (left.certified v is) [ inl below ↦ inl below | inr there ↦ leaves v there ];
    finalize = λ v is. elim (left.finalize v is) [ inl below ↦ inl below | inr there ↦ leaves v there ];
  }

module _ {K L D : Type 0} (same : D → D → Bool) (elect : Elect L) (settled : ℕ → Type 0) (x : StateFacts K L D) where
  abbrev replay_of : ArtifactFacts D → Event K D
  replay_of a = event.Replay a

  -- a verdict of the event enters a later view, or is a replay
  verdict_leaves : (e : Event K D) (v : ℕ) → verdict_by e ≡ Some (v, true)
      → is_certified (round_of (after_event same elect x e) v).certification ≡ true
      → (v < (after_event same elect x e).current) ⊎ (settles v e ≡ true)
  verdict_leaves (event.Certified w success now) v says is =
      let pair : (w, success) ≡ (v, true) = cc in
      by_tracked (ap (λ (p : ℕ × Bool). p.0) pair) (ap (λ (p : ℕ × Bool). p.1) pair) (is_tracked x w) refl
    where
      by_tracked : w ≡ v → success ≡ true → (b : Bool) → is_tracked x w ≡ b
          → (v < (after_event same elect x (event.Certified w success now)).current) ⊎ (false ≡ true)
      by_tracked at so true tracked =
          inl (let passes = certified_passes same elect x w now success tracked so in omega (arith, at, passes))
      by_tracked at so false gone =
          let there = tracked_by x v (λ r. is_certified r.certification) refl (rw gone at is) in
          absurd (false≢true (sym gone ∙ ap (is_tracked x) at ∙ there))
  verdict_leaves (event.Replay (Verdict round success)) v says is =
      let pair : (round.view, success) ≡ (v, true) = cc in
      let at : round.view ≡ v = ap (λ (p : ℕ × Bool). p.0) pair in
      let so : success ≡ true = ap (λ (p : ℕ × Bool). p.1) pair in
      inr (subst (λ b. settles v (replay_of (Verdict round b)) ≡ true) (sym so) (eq-eqb round.view v at))
  verdict_leaves _ v says is = absurd (false≢true (ap is_some says))

  -- a vote to finalize is of a view that is certified, or a replay
  finalize_leaves : (e : Event K D) (v : ℕ) → LeftUnless settled x → finalize_by e ≡ Some v
      → is_finalize (round_of (after_event same elect x e) v).decision ≡ true
      → (v < (after_event same elect x e).current) ⊎ settled v ⊎ (settles v e ≡ true)
  finalize_leaves (event.ConstructFinalize w) v left says is =
      let at : w ≡ v = cc in by_rule at (may_finalize elect x w) refl
    where
      later : (v < x.current) ⊎ settled v → (v < (after_event same elect x (event.ConstructFinalize w)).current)
          ⊎ settled v ⊎ (false ≡ true)
      later (inl below) =
          inl (let goes = (event_goes same elect x (event.ConstructFinalize w)).current in omega (arith, below, goes))
      later (inr there) = inr (inl there)

      by_rule : w ≡ v → (b : Bool) → may_finalize elect x w ≡ b
          → (v < (after_event same elect x (event.ConstructFinalize w)).current) ⊎ settled v ⊎ (false ≡ true)
      by_rule at true may = later (left.certified v
          (subst (λ u. is_certified (round_of x u).certification ≡ true) at (finalize_parts elect x w may).certified))
      by_rule at false may = later (left.finalize v (rw may at is))
  finalize_leaves (event.Replay (FinalizeVote p m)) v left says is = let at : p.round.view ≡ v = cc in
      inr (inr (eq-eqb p.round.view v at))
  finalize_leaves _ v left says is = absurd (false≢true (ap is_some says))

module _ {K L D : Type 0} (same : D → D → Bool) (elect : Elect L) (settled : ℕ → Type 0) (x : StateFacts K L D)
    (e : Event K D) where
  abbrev after : StateFacts K L D
  after = after_event same elect x e

  abbrev Later : ℕ → Type 0
  Later v = (v < after.current) ⊎ settled v ⊎ (settles v e ≡ true)

  decided : (v : ℕ) → Decides e v (round_of x v) (round_of after v) ⊎ ((is_prune e ≡ true) × IsGone x after v)
  decided v = rounds_or_gone same elect x e 0 (Decides e) (decides_on same elect x e) (change_decides same elect x e)
      (event_path same elect 0 x e (omega arith) (asked_of_all x e)) v

  later : (v : ℕ) → (v < x.current) ⊎ settled v → Later v
  later v (inl below) = inl (let goes = (event_goes same elect x e).current in omega (arith, below, goes))
  later v (inr there) = inr (inl there)

  entered : (v : ℕ) → (v < after.current) ⊎ (settles v e ≡ true) → Later v
  entered v (inl below) = inl below
  entered v (inr replayed) = inr (inr replayed)

  fresh : (v : ℕ) → IsGone x after v → round_of after v ≡ new_round after.me after.members (round_number after v)
  fresh v gone = ap (λ o. unwrap_or o (new_round after.me after.members (round_number after v))) gone.untracked

  -- each event leaves the views that it certifies or decides to finalize, unless it replays that
  pub event_left : LeftUnless settled x → LeftUnless (λ v. settled v ⊎ (settles v e ≡ true)) after
  event_left left = record {
    certified = λ v is. by_verdict v is (decided v);
    finalize = λ v is. by_decision v is (decided v);
  }
    where
      by_verdict : (v : ℕ) → is_certified (round_of after v).certification ≡ true
          → Decides e v (round_of x v) (round_of after v) ⊎ ((is_prune e ≡ true) × IsGone x after v) → Later v
      by_verdict v is (inl decides) = elim (decides.certified is) [
        | inl before ↦ later v (left.certified v before)
        | inr says ↦ entered v (verdict_leaves same elect settled x e v says is)
      ]
      by_verdict v is (inr gone) =
          absurd (false≢true (sym (ap (λ (r : RoundFacts K D). is_certified r.certification) (fresh v gone.1)) ∙ is))

      by_decision : (v : ℕ) → is_finalize (round_of after v).decision ≡ true
          → Decides e v (round_of x v) (round_of after v) ⊎ ((is_prune e ≡ true) × IsGone x after v) → Later v
      by_decision v is (inl decides) = elim (decides.finalize is) [
        | inl before ↦ later v (left.finalize v before)
        | inr says ↦ finalize_leaves same elect settled x e v left says is
      ]
      by_decision v is (inr gone) =
          absurd (false≢true (sym (ap (λ (r : RoundFacts K D). is_finalize r.decision) (fresh v gone.1)) ∙ is))

-- the claim that no view is settled
abbrev pub None_settled : ℕ → Type 0
None_settled v = ⊥

module _ {K L D : Type 0} (same : D → D → Bool) (elect : Elect L) where
  -- a new state that sets a floor
  pub floor_left : (setup : Setup K L) (floor : FloorFacts D) (now : ℕ)
      → LeftUnless None_settled (after_set_floor same elect (new_state setup) floor now)
  floor_left setup floor now =
      let x : StateFacts K L D = new_state setup in
      let none : LeftUnless None_settled x =
      record { certified = λ v is. absurd (false≢true is); finalize = λ v is. absurd (false≢true is) } in
      left_but (after_set_floor same elect x floor now) _ None_settled by_none
      (event_left same elect None_settled x (event.SetFloor floor now) none)
    where
      by_none : (v : ℕ) → None_settled v ⊎ (false ≡ true)
          → (v < (after_set_floor same elect (new_state setup) floor now).current) ⊎ None_settled v
      by_none v (inl never) = absurd never
      by_none v (inr never) = absurd (false≢true never)

  -- events one after another
  pub events_left : (settled : ℕ → Type 0) (x : StateFacts K L D) (events : List (Event K D)) → LeftUnless settled x
      → LeftUnless (λ v. settled v ⊎ (list_any (settles v) events ≡ true)) (after_events same elect x events)
  events_left settled x [] left = left_but x settled _ (λ v there. inr (inl there)) left
  events_left settled x (e ∷ rest) left =
      let y = after_event same elect x e in
      left_but (after_events same elect y rest) _ _ joined
      (events_left (λ v. settled v ⊎ (settles v e ≡ true)) y rest (event_left same elect settled x e left))
    where
      joined : (v : ℕ) → (settled v ⊎ (settles v e ≡ true)) ⊎ (list_any (settles v) rest ≡ true)
          → (v < (after_events same elect (after_event same elect x e) rest).current) ⊎ settled v
          ⊎ ((settles v e || list_any (settles v) rest) ≡ true)
      joined v (inl (inl there)) = inr (inl there)
      joined v (inl (inr here)) = inr (inr (or_left (settles v e) (list_any (settles v) rest) here))
      joined v (inr there) = inr (inr (or_right (settles v e) (list_any (settles v) rest) there))

  pub all_time_out : (x : StateFacts K L D) (events : List (Event K D)) → TimesOut x
      → TimesOut (after_events same elect x events)
  all_time_out x [] times_out = times_out
  all_time_out x (e ∷ rest) times_out = all_time_out (after_event same elect x e) rest
      (event_times_out same elect x e times_out)

-- a current view that isn't settled has a timeout
pub unsettled_timeout : {K L D : Type 0} (settled : ℕ → Type 0) (x : StateFacts K L D) → TimesOut x
    → LeftUnless settled x → (settled x.current → ⊥) → has_timeout x ≡ true
unsettled_timeout settled x times_out left unsettled = elim (says_timeout x times_out) [
  | inl is ↦ is
  | inr (inl certified) ↦ absurd (current (left.certified x.current certified))
  | inr (inr decided) ↦ absurd (current (left.finalize x.current decided))
]
  where
    current : (x.current < x.current) ⊎ settled x.current → ⊥
    current (inl below) = omega (arith, below)
    current (inr there) = unsettled there

module _ {K L D : Type 0} (same : D → D → Bool) (elect : Elect L) where
  pub used_states_time_out : (setup : Setup K L) (floor : FloorFacts D) (now : ℕ) (events : List (Event K D))
      → TimesOutUnlessSettled events
      (after_events same elect (after_set_floor same elect (new_state setup) floor now) events)
  used_states_time_out setup floor now events =
      let begun : StateFacts K L D = after_set_floor same elect (new_state setup) floor now in
      let x = after_events same elect begun events in
      let times_out = all_time_out same elect begun events
      (new_times_out same elect setup.settings setup.me setup.members setup.elector setup.terms setup.elects_early
      floor now) in
      record {
        ahead = times_out.ahead;
        timeout = λ none. unsettled_timeout _ x times_out
            (events_left same elect None_settled begun events (floor_left same elect setup floor now))
            (λ there. never x.current none there);
      }
    where
      never : (v : ℕ) → list_any (settles v) events ≡ false → None_settled v ⊎ (list_any (settles v) events ≡ true) → ⊥
      never v none (inl there) = there
      never v none (inr there) = false≢true (sym none ∙ there)
