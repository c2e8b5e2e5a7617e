-- For `current_views_time_out`.
-- The current view lies above the last finalized one, there is no finalization from it on, and it times out.
use Rattle.std.proofs.Common.{◌≡◌, refl, ap, sym, ◌∙◌, subst, ℕ, ◌+◌, ◌<◌, ◌≤◌, ◌⊎◌, inl, inr, Bool, true, false, ◌||◌, ◌&&◌, not, List, Option, Some, None, is_some, unwrap_or, arith}
use Rattle.std.specs.Option.{option_map_or}
use Rattle.std.specs.Prelude.{if◌then◌else◌}
use Rattle.std.proofs.lemmas.Bool.{false≢true, true≢false}
use Rattle.simplex_types.specs.Certificates.{ProposalFacts}
use Rattle.simplex_types.specs.Config.{FloorFacts, Finalized as FinalizedFloor}
use Rattle.simplex_types.specs.declared.reasons.TimeoutReason.{TimeoutReason}
use Rattle.simplex_types.specs.declared.reasons.TimeoutReason.TheVariants.{LeaderTimeout, CertificationTimeout}
use Rattle.simplex_types.specs.declared.types.window.Terms.{Terms}
use Rattle.simplex_round.specs.declared.round.Decision.{Decision}
use Rattle.simplex_round.specs.declared.round.Decision.TheVariants as decision
use Rattle.simplex_round.specs.Round.{RoundFacts, new_round, with_first_timeout, has_no_retry, is_certified, is_finalize, awaits_retry, round_timeout, decision_timeout}
use Rattle.simplex_voter.specs.Facts.{Settings, StateFacts, Elect, new_facts, round_at, round_of, round_number}
use Rattle.simplex_voter.specs.Timeouts.{has_timeout, has_skip_budget}
use Rattle.simplex_voter.specs.StateAnswers.{after_prune}
use Rattle.simplex_voter.specs.Acceptance.{after_set_floor}
use Rattle.simplex_record.specs.Events as event
use Rattle.simplex_record.specs.Events.{Event, after_event, finalized_by_event, is_prune}
use Rattle.laws_safety.proofs.frames.Fresh.{IsNewState}
use Rattle.laws_safety.proofs.frames.EachRound.{IsGone, step_round, rounds_or_gone, pruned_round, prune_alone}
use Rattle.simplex_record.proofs.Paths.{event_path, asked_of_all, armed_timed}
use Rattle.laws_safety.proofs.frames.NoLowerViews.{event_goes}
use Rattle.laws_safety.proofs.frames.Sound.{IsAhead, event_ahead, event_passes}
use Rattle.simplex_record.proofs.Steps as step
use Rattle.simplex_record.proofs.Steps.{is_timed, RoundStep, Step, Path, Reaches, along, finalization_by}

pub record TimesOut {K L D : Type 0} (x : StateFacts K L D) : Type 0 where
  pub ahead : IsAhead x
  pub unfinalized : (v : ℕ) → x.current ≤ v → (round_of x v).finalization ≡ None
  pub timed : is_timed (round_of x x.current).decision ≡ true

latched_timed : (d : Decision) (now : ℕ) (reason : TimeoutReason) → is_timed d ≡ true
    → is_timed (with_first_timeout d (now, reason)) ≡ true
latched_timed (decision.Pending leader certified None) now reason is = is
latched_timed (decision.Pending leader certified (Some first)) now reason is = is
latched_timed (decision.Nullify retry) now reason is = is
latched_timed decision.Finalize now reason is = is

module _ {K L D : Type 0} (same : D → D → Bool) (elect : Elect L) (begun : StateFacts K L D) (e : Event K D) where
  -- no change of a round takes its deadlines away
  change_timed : (x : StateFacts K L D) (v : ℕ) (r s : RoundFacts K D) → RoundStep same elect begun e x v r s
      → is_timed r.decision ≡ true → is_timed s.decision ≡ true
  change_timed x v r s (step.Entered now) is =
      armed_timed r.decision (now + x.settings.leader_timeout) (now + x.settings.certification_timeout)
  change_timed x v r s (step.Latched now reason) is = latched_timed r.decision now reason is
  change_timed x v r s (step.NullifyDecided says unless_finalized) is = refl
  change_timed x v r s (step.FinalizeDecided says unless_nullified) is = refl
  change_timed x v r s (step.Retried now interval says awaits) is = refl
  change_timed x v r s _ is = is

  step_timed : is_prune e ≡ false → (low : ℕ) (x y : StateFacts K L D) → Step same elect begun e low x y
      → is_timed (round_of x x.current).decision ≡ true → is_timed (round_of y y.current).decision ≡ true
  step_timed no_prune low x y (Reaches v above timed) is = timed
  step_timed no_prune low x y s is = elim (step_round same elect begun e low x y s x.current) [
    | inl change ↦ change_timed x x.current (round_of x x.current) (round_of y x.current) change is
    | inr prunes ↦ absurd (true≢false (sym prunes.0 ∙ no_prune))
  ]

-- there is a finalization if there was one, or the event brings it
abbrev FinalizedBy : {K D : Type 0} → Event K D → ℕ → RoundFacts K D → RoundFacts K D → Type 0
FinalizedBy {K} {D} e v r s = (s.finalization ≡ r.finalization)
    ⊎ ((c : ProposalFacts D) × (finalization_by e ≡ Some c) × (c.proposal.round.view ≡ v))

module _ {K L D : Type 0} (same : D → D → Bool) (elect : Elect L) (x : StateFacts K L D) (e : Event K D) where
  finalized_on : (v : ℕ) (r s t : RoundFacts K D) → FinalizedBy e v r s → FinalizedBy e v s t → FinalizedBy e v r t
  finalized_on v r s t (inl p) (inl q) = inl (q ∙ p)
  finalized_on v r s t (inr brings) q = inr brings
  finalized_on v r s t p (inr brings) = inr brings

  change_finalized : (y : StateFacts K L D) (v : ℕ) (r s : RoundFacts K D) → RoundStep same elect x e y v r s
      → FinalizedBy e v r s
  change_finalized y v r s (step.Finalized c says at none) = inr (c, says, at)
  change_finalized y v r s _ = inl refl

-- the view of the finalization that an event brings
final_view : {K D : Type 0} (e : Event K D) (c : ProposalFacts D) → finalization_by e ≡ Some c
    → finalized_by_event e ≡ c.proposal.round.view
final_view (event.AddFinalization f now) c is = (let one : f ≡ c = cc in ap (λ g. g.proposal.round.view) one)
final_view (event.SetFloor (FinalizedFloor f) now) c is = (let one : f ≡ c = cc in ap (λ g. g.proposal.round.view) one)
final_view _ c is = absurd (false≢true (ap is_some is))

module _ {K L D : Type 0} (same : D → D → Bool) (elect : Elect L) (x : StateFacts K L D) (e : Event K D) where
  abbrev after : StateFacts K L D
  after = after_event same elect x e

  path : Path same elect x e 0 x after
  path = event_path same elect 0 x e (omega arith) (asked_of_all x e)

  -- none appears from the current view on
  still_open : IsAhead after → ((v : ℕ) → x.current ≤ v → (round_of x v).finalization ≡ None) → (v : ℕ)
      → after.current ≤ v → (round_of after v).finalization ≡ None
  still_open ahead none v from =
      elim (rounds_or_gone same elect x e 0 (FinalizedBy e) (finalized_on same elect x e)
      (change_finalized same elect x e) path v) [
        | inl (inl same_there) ↦ same_there ∙ none v
            (let goes = (event_goes same elect x e).current in omega (arith, goes, from))
        | inl (inr (c, brings, at)) ↦ absurd (passed c brings at)
        | inr gone ↦ none_there gone.1
      ]
    where
      passed : (c : ProposalFacts D) → finalization_by e ≡ Some c → c.proposal.round.view ≡ v → ⊥
      passed c brings at = let view = final_view e c brings in elim (event_passes same elect x e) [
        | inl silent ↦ omega (arith, silent.1, view, at, from, ahead)
        | inr above ↦ omega (arith, above, view, at, from)
      ]

      none_there : IsGone x after v → (round_of after v).finalization ≡ None
      none_there gone = ap (λ o. (unwrap_or o (new_round after.me after.members (round_number after v))).finalization)
          gone.untracked

  -- the current view times out after a prune, which keeps it
  pruned_timed : TimesOut x → is_timed (round_of (after_prune x) x.current).decision ≡ true
  pruned_timed times_out = elim (pruned_round x x.current) [
    | inl kept ↦ ap (λ (r : RoundFacts K D). is_timed r.decision) kept ∙ times_out.timed
    | inr gone ↦ absurd (let below = gone.below in let ahead = times_out.ahead in omega (arith, below, ahead))
  ]

  timed_by : (b : Bool) → is_prune e ≡ b → TimesOut x → is_timed (round_of after after.current).decision ≡ true
  timed_by false no_prune times_out =
      along same elect x e 0 (λ (y : StateFacts K L D). is_timed (round_of y y.current).decision ≡ true)
      (step_timed same elect x e no_prune 0) x after path times_out.timed
  timed_by true prunes times_out = subst (λ (y : StateFacts K L D). is_timed (round_of y y.current).decision ≡ true)
      (sym (prune_alone same elect x e prunes)) (pruned_timed times_out)

  pub event_times_out : TimesOut x → TimesOut after
  event_times_out times_out = (let ahead = event_ahead same elect x e (inl times_out.ahead) in record {
    ahead = ahead;
    unfinalized = still_open ahead times_out.unfinalized;
    timed = timed_by (is_prune e) refl times_out;
  })

  -- a view that was not current before times out
  abbrev AsBefore : StateFacts K L D → Type 0
  AsBefore y = (y.current ≡ x.current) ⊎ (is_timed (round_of y y.current).decision ≡ true)

  pub reached_timed : is_prune e ≡ false → x.current < after.current
      → is_timed (round_of after after.current).decision ≡ true
  reached_timed no_prune above = elim (along same elect x e 0 AsBefore keeps x after path (inl refl))
      [ inl before ↦ absurd (omega (arith, above, before)) | inr timed ↦ timed ]
    where
      keeps : (y z : StateFacts K L D) → Step same elect x e 0 y z → AsBefore y → AsBefore z
      keeps y z (Reaches v over timed) p = inr timed
      keeps y z s (inl before) = inl before
      keeps y z s (inr timed) = inr (step_timed same elect x e no_prune 0 y z s timed)

-- a new state that sets a floor
module _ {K L D : Type 0} (same : D → D → Bool) (elect : Elect L) where
  pub new_times_out : (settings : Settings) (me : Option ℕ) (members : List K) (elector : L) (terms : Terms)
      (early : Bool) (floor : FloorFacts D) (now : ℕ)
      → TimesOut (after_set_floor same elect (new_facts settings me members elector terms early) floor now)
  new_times_out settings me members elector terms early floor now =
      let x : StateFacts K L D = new_facts settings me members elector terms early in
      let e : Event K D = event.SetFloor floor now in
      let ahead = event_ahead same elect x e (inr (refl, refl)) in
      record {
        ahead = ahead;
        unfinalized = still_open same elect x e ahead (λ v from. refl);
        timed = reached_timed same elect x e refl (omega (arith, ahead));
      }

  pub floor_times_out : (term_length : ℕ) (x : StateFacts K L D) (floor : FloorFacts D) (now : ℕ)
      → IsNewState term_length x → TimesOut (after_set_floor same elect x floor now)
  floor_times_out term_length x floor now fresh =
      subst (λ y. TimesOut (after_set_floor same elect y floor now)) (sym fresh.fresh)
      (new_times_out x.settings x.me x.members x.elector x.terms x.elects_early floor now)

-- claims about the timeout

module _ {K L D : Type 0} (x : StateFacts K L D) where
  pub says_timeout : TimesOut x → (has_timeout x ≡ true) ⊎ (is_certified (round_of x x.current).certification ≡ true)
      ⊎ (is_finalize (round_of x x.current).decision ≡ true)
  says_timeout times_out = by_round (round_at x x.current) refl times_out.timed
      (times_out.unfinalized x.current (omega arith))
    where
      r : RoundFacts K D
      r = round_of x x.current

      by_decision : (d : Decision) (final : Option (ProposalFacts D)) (allow held certified : Bool) → final ≡ None
          → is_timed d ≡ true
          → ((not (is_some final) && has_no_retry d || is_some
          (if is_some final then None else decision_timeout d allow held certified)) ≡ true) ⊎ (certified ≡ true)
          ⊎ (is_finalize d ≡ true)
      by_decision d final allow held true is timed = inr (inl refl)
      by_decision decision.Finalize final allow held false is timed = inr (inr refl)
      by_decision (decision.Nullify None) final allow held false is timed = inl (rw is refl)
      by_decision (decision.Nullify (Some at)) final allow held false is timed = inl (rw is refl)
      by_decision (decision.Pending leader None latch) final allow held false is timed = absurd (false≢true timed)
      by_decision (decision.Pending leader (Some at) latch) final allow held false is timed =
          inl (rw is (some_of (if allow then latch else None) (if held then None else leader)))
        where
          some_of : (o : Option (ℕ × TimeoutReason)) (l : Option ℕ)
              → is_some (option_map_or (λ (first : ℕ × TimeoutReason). Some first) o
              (option_map_or (λ (m : ℕ). Some (m, LeaderTimeout)) l (Some (at, CertificationTimeout)))) ≡ true
          some_of None None = refl
          some_of None (Some m) = refl
          some_of (Some first) l = refl

      by_round : (o : Option (RoundFacts K D)) → round_at x x.current ≡ o → is_timed r.decision ≡ true
          → r.finalization ≡ None → (has_timeout x ≡ true) ⊎ (is_certified r.certification ≡ true)
          ⊎ (is_finalize r.decision ≡ true)
      by_round None untracked timed unfinalized =
          absurd (false≢true (ap (λ o. is_timed
          (unwrap_or o (new_round x.me x.members (round_number x x.current))).decision) (sym untracked) ∙ timed))
      by_round (Some s) there timed unfinalized =
          let one : r ≡ s = ap (λ o. unwrap_or o (new_round x.me x.members (round_number x x.current))) there in
          subst (λ o. (option_map_or (λ q. awaits_retry q || is_some (round_timeout q (has_skip_budget x))) o
          false ≡ true) ⊎ (is_certified r.certification ≡ true) ⊎ (is_finalize r.decision ≡ true)) (sym there)
          (subst (λ (q : RoundFacts K D). ((awaits_retry q || is_some (round_timeout q (has_skip_budget x))) ≡ true)
          ⊎ (is_certified r.certification ≡ true) ⊎ (is_finalize r.decision ≡ true)) one
          (by_decision r.decision r.finalization (has_skip_budget x) (is_some r.slot.held)
          (is_certified r.certification) unfinalized timed))
