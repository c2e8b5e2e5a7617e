-- What verdicts say of the work on a view.
use Rattle.std.proofs.Common.{◌≡◌, ◌⊎◌, refl, ap, sym, subst, ◌∙◌, ℕ, ◌+◌, Bool, true, false, ◌&&◌, eqb, nat_lt, nat_le, if◌then◌else◌, Some, None, unwrap_or, inl, inr, arith}
use Rattle.std.proofs.lemmas.Bool.{cases_eq, eq-eqb, ne_eqb}
use Rattle.std.proofs.Math.Bool.{and-false}
use Rattle.simplex_types.specs.declared.reasons.TimeoutReason.TheVariants.{FailedCertification}
use Rattle.simplex_round.specs.declared.round.Certification.TheVariants.{Judged}
use Rattle.simplex_round.specs.Round.{RoundFacts, certified_round}
use Rattle.simplex_voter.specs.Facts.{StateFacts, Elect, round_of, is_tracked, with_round}
use Rattle.simplex_voter.specs.ViewEntry.{with_view_entered, entered_round, at_moment}
use Rattle.simplex_voter.specs.Timeouts.{with_timeout}
use Rattle.simplex_voter.specs.Certification.{with_verdict, with_waiting_candidate, verdict_taken, after_certified}
use Rattle.simplex_member.specs.OutstandingWork.{is_among}
use Rattle.simplex_record.specs.Events.{Event, Certified}
use Rattle.laws_history.specs.WorkRequests.{is_at, wakes, names}
use Rattle.laws_history.specs.Moments.{triggers}
use Rattle.simplex_record.proofs.RoundChanges.{round_of-put}
use Rattle.laws_history.proofs.UnchangedHistories.{known_of_round, UnchangedKnown, entered_leaves}
use Rattle.laws_history.proofs.work.Elections.{woken_work}
use Rattle.laws_history.proofs.work.Puts.{unentered, shared_follows, idle_follows}
use Rattle.laws_history.proofs.work.SetUp.{UnchangedSetUp, steady_joined, entered_steady, woken_steady, wakings_steady}
use Rattle.laws_history.proofs.work.Timeouts.{work_triggered, shared_triggered}
use Rattle.laws_history.proofs.work.Wakings.{waits_alike, woken_among}
use Rattle.laws_history.proofs.work.Leaders.{work_entered_at, entry_at, entered_work}
use Rattle.laws_history.proofs.Worked.{Worked, work_of, timed, adds_work, work_put, work_elsewhere, WorkFollows, SaysNoWork, is_tracked-put, untimed}

module _ {K L D : Type 0} (x : StateFacts K L D) (v : ℕ) (tracked : is_tracked x v ≡ true) where
  judged_work : (now : ℕ) (success : Bool) (w : ℕ)
      → work_of (with_verdict (at_moment x now) v success) w ≡ record (work_of x w)
      { certification = unwrap_or (if is_at x w v then Some (Judged success) else None) (work_of x w).certification }
  judged_work now success w = by_view (cases_eq w v)
    where
      a : StateFacts K L D
      a = at_moment x now

      by_view : ((w ≡ v) ⊎ (w ≡ v → ⊥)) → work_of (with_verdict a v success) w ≡ record (work_of x w) {
        certification = unwrap_or (if is_at x w v then Some (Judged success) else None)
            (work_of x w).certification;
      }
      by_view (inl here) = rw (here, tracked, eq-eqb v v refl) (work_put a v (certified_round (round_of x v) success))
      by_view (inr apart) = rw (ne_eqb w v apart)
          (work_elsewhere a v w (certified_round (round_of x v) success) (ne_eqb w v apart))

module _ {K L D : Type 0} (same : D → D → Bool) (elect : Elect L) (x : StateFacts K L D) (v now : ℕ) where
  -- a true verdict enters the next view, and wakes what waited for this one
  true_works : is_tracked x v ≡ true → WorkFollows same elect (Certified v true now) x
      (verdict_taken elect (at_moment x now) v true now)
  true_works tracked = record {
    me = ap (λ (z : StateFacts K L D). z.me) steady;
    members = ap (λ (z : StateFacts K L D). z.members) steady;
    elector = ap (λ (z : StateFacts K L D). z.elector) steady;
    elects_early = ap (λ (z : StateFacts K L D). z.elects_early) steady;
    failed = ap (λ (z : StateFacts K L D). z.failed) steady;
    named = λ w. woken_among elect y v w ∙ rw tracked (names w (cases_eq w (v + 1)));
    work = λ w _. woken_work elect y v w ∙ entered_work j (v + 1) now w
        ∙ ap (work_entered_at j (entry_at j (v + 1) now w)) (judged_work x v tracked now true w) ∙ sym (said w);
  }
    where
      j : StateFacts K L D
      j = with_verdict (at_moment x now) v true

      y : StateFacts K L D
      y = with_view_entered j (v + 1) now

      steady : UnchangedSetUp x (with_waiting_candidate elect y v)
      steady = steady_joined x y (with_waiting_candidate elect y v) (entered_steady j (v + 1) now)
          (woken_steady elect y v)

      numbers : (b : Bool) (r : RoundFacts K D)
          → ((if b then record (with_round j (v + 1) r) { current = v + 1 } else j).finalized ≡ x.finalized)
          × ((if b then record (with_round j (v + 1) r) { current = v + 1 } else j).named ≡ x.named)
      numbers true r = (refl, refl)
      numbers false r = (refl, refl)

      entering : (y.finalized ≡ x.finalized) × (y.named ≡ x.named)
      entering = numbers (nat_lt j.current (v + 1)) (entered_round j (round_of j (v + 1)) now)

      above : eqb (v + 1) v ≡ false
      above = ne_eqb (v + 1) v (λ same. absurd (omega (arith, same)))

      next : UnchangedKnown (round_of x (v + 1)) (round_of y (v + 1))
      next =
          let unchanged : round_of j (v + 1) ≡ round_of x (v + 1) =
          round_of-put (at_moment x now) (v + 1) v (certified_round (round_of x v) true) ∙ rw above refl in
          (entered_leaves j (v + 1) now).rounds (v + 1) ∙ ap known_of_round unchanged

      Named : ℕ → Type 0
      Named w = unwrap_or (if wakes elect y y.finalized v w then Some true else None) (is_among w y.named) ≡ unwrap_or
          (if wakes elect x x.finalized v w then Some true else None) (is_among w x.named)

      names : (w : ℕ) → ((w ≡ v + 1) ⊎ (w ≡ v + 1 → ⊥)) → Named w
      names w (inl here) = subst Named (sym here)
          (λ i. unwrap_or (if eqb (v + 1) (v + 1) && nat_lt (entering.0 i) (v + 1) && waits_alike elect x y v
          (wakings_steady x y (entered_steady j (v + 1) now)) next i then Some true else None)
          (is_among (v + 1) (entering.1 i)))
      names w (inr apart) = rw (ne_eqb w (v + 1) apart) (ap (λ views. is_among w views) entering.1)

      said : (w : ℕ) → adds_work same elect x (Certified v true now) w (work_of x w) ≡ work_entered_at j
          (entry_at j (v + 1) now w) (record (work_of x w)
          { certification = unwrap_or (if is_at x w v then Some (Judged true) else None) (work_of x w).certification })
      said w = rw tracked refl

  -- a false one times the view out
  false_works : is_tracked x v ≡ true → WorkFollows same elect (Certified v false now) x
      (verdict_taken elect (at_moment x now) v false now)
  false_works tracked = shared_follows same elect x e (λ w. refl) (with_timeout j v FailedCertification now)
      (shared_triggered j v FailedCertification now)
      (λ w _. work_triggered j v FailedCertification now x.settings w
      ∙ ap (timed_out w) (judged_work x v tracked now false w) ∙ sym (said w))
    where
      e : Event K D
      e = Certified v false now

      j : StateFacts K L D
      j = with_verdict (at_moment x now) v false

      timed_out : ℕ → Worked K D → Worked K D
      timed_out w k = record k {
        decision = timed x.settings None
            (if eqb w v && triggers j v FailedCertification then Some (now, FailedCertification) else None) None
            k.decision;
      }

      here : is_tracked j v ≡ true
      here = is_tracked-put (at_moment x now) v v (certified_round (round_of x v) false) ∙ rw (eq-eqb v v refl) refl

      twice : (a b : Bool) → ((a && true) && b) ≡ (a && ((b && true) && true))
      twice true true = refl
      twice true false = refl
      twice false b = refl

      test : (w : ℕ) → (is_at x w v && nat_le x.current v) ≡ (eqb w v && triggers j v FailedCertification)
      test w = rw (tracked, here) (twice (eqb w v) (nat_le x.current v))

      said : (w : ℕ) → adds_work same elect x e w (work_of x w) ≡ timed_out w
          (record (work_of x w)
          { certification = unwrap_or (if is_at x w v then Some (Judged false) else None) (work_of x w).certification })
      said w = rw (unentered x e w refl, test w) refl

  -- a verdict on a view that isn't tracked says nothing
  pub verdict_works : (success : Bool) → WorkFollows same elect (Certified v success now) x
      (after_certified elect x v success now)
  verdict_works success = by_tracked (is_tracked x v) refl success
    where
      a : StateFacts K L D
      a = at_moment x now

      e : Bool → Event K D
      e s = Certified v s now

      by_tracked : (b : Bool) → is_tracked x v ≡ b → (s : Bool)
          → WorkFollows same elect (Certified v s now) x (if b then verdict_taken elect a v s now else a)
      by_tracked true tracked true = true_works tracked
      by_tracked true tracked false = false_works tracked
      by_tracked false untracked s = idle_follows same elect x (Certified v s now) (unnamed s) a refl (λ w _. refl)
          (idle s)
        where
          unnamed : (s : Bool) (w : ℕ) → names elect w x (e s) ≡ None
          unnamed true w = rw untracked refl
          unnamed false w = refl

          idle : (s : Bool) (w : ℕ) → SaysNoWork same elect x (Certified v s now) w
          idle true w k = rw (
            unentered x (e true) w (ap (λ b. if b then v + 1 else 0) untracked),
            untracked,
            and-false (eqb w v),
            untimed x.settings k.decision,
          ) refl
          idle false w k =
              rw (unentered x (e false) w refl, untracked, and-false (eqb w v), untimed x.settings k.decision) refl
