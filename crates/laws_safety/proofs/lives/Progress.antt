-- For `views_are_left`.
-- The current view of each state of a run can be left.
use Rattle.std.proofs.Common.{◌≡◌, refl, ap, sym, ◌∙◌, subst, ℕ, ◌+◌, ◌<◌, ◌≤◌, Bool, true, false, ◌&&◌, not, nat_lt, nat_le, if◌then◌else◌, inl, inr, List, Option, Some, None, is_some, unwrap_or, arith}
use Rattle.std.specs.Prelude.{◌==◌, MatchOption}
use Rattle.std.specs.Option.{option_map_or}
use Rattle.std.specs.Ordering.{nat_cmp}
use Rattle.std.specs.BTreeSet.{insert_key}
use Rattle.std.proofs.Math.Bool.{and-false}
use Rattle.std.proofs.lemmas.Bool.{lt-ltb, le-leb, eq-eqb, false≢true}
use Rattle.simplex_types.specs.Certificates.{ProposalFacts, NullificationFacts}
use Rattle.simplex_types.specs.Config.{FloorFacts}
use Rattle.simplex_types.specs.Terms.{next_term_start}
use Rattle.simplex_types.specs.declared.types.numbers.Round.{Round}
use Rattle.simplex_view_maps.proofs.Gaps.{next_above}
use Rattle.simplex_round.specs.Round.{RoundFacts, is_judged, leader_at, new_round}
use Rattle.simplex_voter.specs.Acceptance.{after_set_floor}
use Rattle.simplex_voter.specs.Certification.{named_also, takes_verdict, verdict_taken, waits_for, with_verdict, with_waiting_candidate}
use Rattle.simplex_voter.specs.ViewEntry.{at_moment, with_view_entered}
use Rattle.simplex_voter.specs.Leaders.{has_leader, with_elected_leader}
use Rattle.simplex_voter.specs.Facts.{StateFacts, Elect, round_at, round_of, round_number, is_tracked, with_round}
use Rattle.simplex_voter.specs.Refusals.{first_fault, is_too_large, names_too_large, has_late_deadline, takes_round}
use Rattle.simplex_voter.specs.Windows.{min_active}
use Rattle.simplex_member.specs.Calls.{ReplyFacts, AddNullification, AddFinalization, Certified}
use Rattle.simplex_member.specs.MemberFacts.{MemberFacts}
use Rattle.simplex_member.specs.OutstandingWork.{OutstandingWork}
use Rattle.simplex_member.specs.Runs.{StepFacts, IsRun}
use Rattle.simplex_record.specs.Start.{StartFacts}
use Rattle.laws_safety.specs.Executions.{new_member}
use Rattle.simplex_record.specs.Events as event
use Rattle.simplex_record.specs.Events.{Event, after_event}
use Rattle.laws_safety.specs.Progress.{GoesPast, CanBeLeft}
use Rattle.laws_safety.specs.TermLengths.{HasTerms, KeepTerms}
use Rattle.laws_safety.proofs.frames.Fresh.{IsNewState}
use Rattle.laws_safety.proofs.frames.NoLowerViews.{event_goes}
use Rattle.laws_safety.proofs.frames.RunsKeep.{HoldsIn, run_induction}
use Rattle.laws_safety.proofs.frames.Sound.{IsSound, entered_reaches, event_passes, event_sound, floor_sound}

-- no fault is due where none of its reasons holds
pub no_fault_due : (failed too_large late : Bool) → failed ≡ false → too_large ≡ false → late ≡ false
    → first_fault failed too_large late ≡ None
no_fault_due failed too_large late alive small early = rw (alive, small, early) refl

-- a moment without a late deadline is never late
never_late : (enters late : Bool) → late ≡ false → (enters && late) ≡ false
never_late enters late early = ap (λ b. enters && b) early ∙ and-false enters

both : (a b : Bool) → a ≡ true → b ≡ true → (a && b) ≡ true
both a b is so = rw (is, so) refl

-- where a view is entered, the current one lies no lower from then on

module _ {K L D : Type 0} (v : ℕ) where
  either_reaches : (b : Bool) (y z : StateFacts K L D) → v ≤ y.current → v ≤ z.current
      → v ≤ (if b then y else z).current
  either_reaches true y z reached other = reached
  either_reaches false y z reached other = other

  led_reaches : (elect : Elect L) (x : StateFacts K L D) (w : ℕ) (seed : Option (List ℕ)) → v ≤ x.current
      → v ≤ (with_elected_leader elect x w seed).current
  led_reaches elect x w seed reached = either_reaches (has_leader x w) x
      (with_round x w (record (round_of x w)
      { leader = leader_at x.members (elect x.elector (round_number x w) seed) })) reached reached

  woken_reaches : (elect : Elect L) (x : StateFacts K L D) (p : ℕ) → v ≤ x.current
      → v ≤ (with_waiting_candidate elect x p).current
  woken_reaches elect x p reached =
      either_reaches (option_map_or (waits_for elect x p) (round_at x (p + 1)) false) (named_also x (p + 1)) x
      (either_reaches (nat_lt x.finalized (p + 1)) (record x { named = insert_key nat_cmp x.named (p + 1) }) x reached
      reached) reached

-- a state that has not failed, above its last finalized view
pub record IsSoundAndAlive {K L D : Type 0} (term_length : ℕ) (x : StateFacts K L D) : Type 0 where
  pub sound : IsSound term_length x
  pub alive : x.failed ≡ false

module _ {K L D : Type 0} (same : D → D → Bool) (elect : Elect L) (term_length : ℕ) (some : 0 < term_length)
    (x : StateFacts K L D) (goes : IsSoundAndAlive term_length x) where
  -- a certificate of the current view is taken
  takes_current : takes_round x (round_number x x.current) ≡ true
  takes_current =
      let ahead = goes.sound.ahead in
      both (nat_lt 0 x.current && (x.settings.epoch == x.settings.epoch))
      (nat_le 1 x.current && nat_le (min_active x) x.current)
      (both (nat_lt 0 x.current) (x.settings.epoch == x.settings.epoch) (lt-ltb 0 x.current (omega (arith, ahead)))
      (eq-eqb x.settings.epoch x.settings.epoch refl))
      (both (nat_le 1 x.current) (nat_le (min_active x) x.current) (le-leb 1 x.current (omega (arith, ahead)))
      (le-leb (min_active x) x.current (omega (arith, ahead))))

  -- the start of the next term lies above
  next_term_above : x.current < next_term_start x.terms.term_length x.current
  next_term_above =
      let ahead = goes.sound.ahead in
      next_above x.terms.term_length x.current (subst (λ t. 0 < t) (sym goes.sound.terms) some) (omega (arith, ahead))

  module _ (o : OutstandingWork K D) (now : ℕ) (small : is_too_large x.current ≡ false)
      (early : has_late_deadline x now ≡ false) where
    nullification_goes : (c : NullificationFacts) → c.round ≡ round_number x x.current
        → GoesPast same elect x o (AddNullification c now)
    nullification_goes c at =
        let next = next_term_start x.terms.term_length c.round.view in
        let view = ap (λ (r : Round). r.view) at in
        let above : x.current < next = subst (λ v. x.current < next_term_start x.terms.term_length v) (sym view)
        next_term_above in
        let e = with_view_entered (at_moment x now) next now in
        let reaches : next ≤ (after_event same elect x (event.AddNullification c now)).current =
        led_reaches next elect e next (Some c.bytes) (entered_reaches (at_moment x now) next now) in
        record {
          allowed = ap (takes_round x) at ∙ takes_current;
          no_fault = no_fault_due x.failed (is_too_large c.round.view)
              (nat_lt x.current next && has_late_deadline x now) goes.alive (ap is_too_large view ∙ small)
              (never_late (nat_lt x.current next) (has_late_deadline x now) early);
          past = omega (arith, above, reaches);
        }

    finalization_goes : (c : ProposalFacts D) → c.proposal.round ≡ round_number x x.current
        → names_too_large c.proposal ≡ false → GoesPast same elect x o (AddFinalization c now)
    finalization_goes c at fits =
        let next = c.proposal.round.view + 1 in
        let view = ap (λ (r : Round). r.view) at in
        let ahead = goes.sound.ahead in
        record {
          allowed = ap (takes_round x) at ∙ takes_current;
          no_fault = no_fault_due x.failed (names_too_large c.proposal)
              (nat_lt x.current next && has_late_deadline x now) goes.alive fits
              (never_late (nat_lt x.current next) (has_late_deadline x now) early);
          past = elim (event_passes same elect x (event.AddFinalization c now)) [
            | inl silent ↦ absurd (let none : c.proposal.round.view ≡ 0 = silent.1 in omega (arith, none, view, ahead))
            | inr above ↦ omega (arith, above, view)
          ];
        }

    -- a notarized view is tracked
    notarized_tracked : is_some (round_of x x.current).notarization ≡ true → (found : Option (RoundFacts K D))
        → round_at x x.current ≡ found → is_some found ≡ true
    notarized_tracked notarized None is = absurd
        (false≢true (sym (ap (λ f.
        is_some (unwrap_or f (new_round x.me x.members (round_number x x.current))).notarization) is) ∙ notarized))
    notarized_tracked notarized (Some r) is = refl

    verdict_allowed : is_some (round_of x x.current).notarization ≡ true
        → is_judged false (round_of x x.current).certification ≡ false → takes_verdict x x.current true ≡ true
    verdict_allowed notarized unjudged = let ahead = goes.sound.ahead in
        both (nat_lt 0 x.current) (fits (round_at x x.current)) (lt-ltb 0 x.current (omega (arith, ahead)))
        (by_round (round_at x x.current) refl)
      where
        fits : Option (RoundFacts K D) → Bool
        fits found = option_map_or (λ r. is_some r.notarization && not (is_judged false r.certification)) found true

        by_round : (found : Option (RoundFacts K D)) → round_at x x.current ≡ found → fits found ≡ true
        by_round None is = refl
        by_round (Some r) is =
            let one : round_of x x.current ≡ r = ap
            (λ f. unwrap_or f (new_round x.me x.members (round_number x x.current))) is in
            both (is_some r.notarization) (not (is_judged false r.certification))
            (subst (λ (q : RoundFacts K D). is_some q.notarization ≡ true) one notarized)
            (ap not (subst (λ (q : RoundFacts K D). is_judged false q.certification ≡ false) one unjudged))

    verdict_goes : is_some (round_of x x.current).notarization ≡ true
        → is_judged false (round_of x x.current).certification ≡ false
        → GoesPast same elect x o (Certified x.current true now)
    verdict_goes notarized unjudged =
        let takes = verdict_allowed notarized unjudged in
        let tracked : is_tracked x x.current ≡ true = notarized_tracked notarized (round_at x x.current) refl in
        let late = nat_lt x.current (x.current + 1) && has_late_deadline x now in
        let a = at_moment x now in
        let e = with_view_entered (with_verdict a x.current true) (x.current + 1) now in
        let reaches : x.current + 1 ≤ (after_event same elect x (event.Certified x.current true now)).current =
        subst (λ b. x.current + 1 ≤ (if b then verdict_taken elect a x.current true now else a).current) (sym tracked)
        (woken_reaches (x.current + 1) elect e x.current
        (entered_reaches (with_verdict a x.current true) (x.current + 1) now)) in
        record {
          allowed = takes;
          no_fault = no_fault_due x.failed false (is_tracked x x.current && late) goes.alive refl
              (never_late (is_tracked x x.current) late
              (never_late (nat_lt x.current (x.current + 1)) (has_late_deadline x now) early));
          past = omega (arith, reaches);
        }

  goes_past : CanBeLeft same elect x
  goes_past o now small early = record {
    nullification = nullification_goes o now small early;
    finalization = finalization_goes o now small early;
    verdict = verdict_goes o now small early;
  }

-- of each state of a run

module _ {K L D : Type 0} (same : D → D → Bool) (elect : Elect L) where
  event_goes_on : (term_length : ℕ) (x : StateFacts K L D) (e : Event K D) → IsSoundAndAlive term_length x
      → IsSoundAndAlive term_length (after_event same elect x e)
  event_goes_on term_length x e goes = record {
    sound = event_sound same elect term_length x e goes.sound;
    alive = (event_goes same elect x e).failed ∙ goes.alive;
  }

  floor_goes_on : (term_length : ℕ) (x : StateFacts K L D) (floor : FloorFacts D) (now : ℕ) → IsNewState term_length x
      → IsSoundAndAlive term_length (after_set_floor same elect x floor now)
  floor_goes_on term_length x floor now fresh = record {
    sound = floor_sound same elect term_length x floor now fresh;
    alive = (event_goes same elect x (event.SetFloor floor now)).failed
        ∙ ap (λ (y : StateFacts K L D). y.failed) fresh.fresh;
  }

  pub states_are_left : (term_length : ℕ) (start : StartFacts K L D) (steps : List (StepFacts K L D))
      (replies : List (ReplyFacts K D)) (end : MemberFacts K L D) → HasTerms term_length start.setup
      → KeepTerms term_length steps
      → IsRun same elect (new_member same elect start) steps replies end
      → MatchOption end.life (Unit {0}) (CanBeLeft same elect)
  states_are_left term_length start steps replies end begins keep run =
      by_life end.life (run_induction same elect term_length (IsSoundAndAlive term_length) (floor_goes_on term_length)
      (event_goes_on term_length) start steps replies end begins keep run)
    where
      by_life : (life : Option (StateFacts K L D)) → HoldsIn (IsSoundAndAlive term_length) life
          → MatchOption life (Unit {0}) (CanBeLeft same elect)
      by_life None goes = tt
      by_life (Some x) goes = goes_past same elect term_length begins.some x goes
