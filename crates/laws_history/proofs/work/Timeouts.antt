-- What timeouts and failed verifications say of the work on a view.
use Rattle.std.proofs.Common.{◌≡◌, refl, ap, sym, ◌∙◌, ℕ, ◌+◌, Bool, true, false, ◌&&◌, not, eqb, if◌then◌else◌, Some, None, is_some, inl, inr}
use Rattle.std.proofs.Math.Bool.{and-true, and-false}
use Rattle.std.proofs.lemmas.Bool.{cases_eq, eq-eqb, ne_eqb, true≢false}
use Rattle.simplex_types.specs.declared.reasons.TimeoutReason.{TimeoutReason}
use Rattle.simplex_round.specs.declared.round.Decision.{Decision}
use Rattle.simplex_round.specs.declared.round.Decision.TheVariants.{Pending, Nullify, Finalize}
use Rattle.simplex_round.specs.Round.{RoundFacts, with_first_timeout, with_latch, has_no_retry, awaits_retry}
use Rattle.simplex_voter.specs.Facts.{Settings, StateFacts, Elect, round_of, is_tracked, with_round}
use Rattle.simplex_voter.specs.ViewEntry.{at_moment}
use Rattle.simplex_voter.specs.Parents.{verification_matches}
use Rattle.simplex_voter.specs.Timeouts.{with_timeout, round_with_retry, after_trigger_timeout, after_next_timeout}
use Rattle.simplex_voter.specs.Verification.{without_binding, after_verification_failed}
use Rattle.simplex_voter.proofs.Gaps.{and_parts}
use Rattle.simplex_record.specs.Events.{Event, VerificationFailed, TriggerTimeout, NextTimeout}
use Rattle.laws_history.specs.WorkRequests.{is_at}
use Rattle.laws_history.specs.Moments.{triggers}
use Rattle.laws_history.proofs.Worked.{work_in, work_of, timed, adds_work, WorkFollows, SaysNoWork, work_put, work_elsewhere, untimed}
use Rattle.laws_history.proofs.work.Puts.{unentered, shared_of, shared_follows, tracked_follows}

-- an explicit timeout is latched where neither vote is decided
pub latched_timed : (settings : Settings) (d : Decision) (timeout : ℕ × TimeoutReason)
    → with_first_timeout d timeout ≡ timed settings None (Some timeout) None d
latched_timed settings (Pending leader certification None) timeout = refl
latched_timed settings (Pending leader certification (Some first)) timeout = refl
latched_timed settings (Nullify again) timeout = refl
latched_timed settings Finalize timeout = refl

-- a decision that awaits the moment of its repeat takes it
repeated : (settings : Settings) (d : Decision) (at : ℕ) → has_no_retry d ≡ true
    → Nullify (Some at) ≡ timed settings None None (Some at) d
repeated settings (Pending leader certification first) at is = absurd (true≢false (sym is))
repeated settings (Nullify again) at is = refl
repeated settings Finalize at is = absurd (true≢false (sym is))

module _ {K L D : Type 0} (x : StateFacts K L D) (v : ℕ) (reason : TimeoutReason) (now : ℕ) where
  -- a trigger changes nothing but a round
  pub rest_triggered : (record (with_timeout x v reason now) { rounds = x.rounds }) ≡ x
  rest_triggered = either (triggers x v reason)
    where
      either : (b : Bool)
          → (record (if b then with_round x v (with_latch (round_of x v) now reason) else x) { rounds = x.rounds }) ≡ x
      either true = refl
      either false = refl

  pub shared_triggered : shared_of (with_timeout x v reason now) ≡ shared_of x
  shared_triggered = ap shared_of rest_triggered

  -- the timeout of a view is latched where it is triggered
  pub work_triggered : (settings : Settings) (w : ℕ)
      → work_of (with_timeout x v reason now) w ≡ record (work_of x w) {
        decision = timed settings None (if eqb w v && triggers x v reason then Some (now, reason) else None) None
            (work_of x w).decision;
      }
  work_triggered settings w = by_test (triggers x v reason) refl
    where
      s : RoundFacts K D
      s = with_latch (round_of x v) now reason

      by_test : (b : Bool) → triggers x v reason ≡ b
          → work_of (if b then with_round x v s else x) w ≡ record (work_of x w) {
            decision = timed settings None (if eqb w v && b then Some (now, reason) else None) None
                (work_of x w).decision;
          }
      by_test false is = rw (and-false (eqb w v), untimed settings (round_of x w).decision) refl
      by_test true is = elim (cases_eq w v) [
        | inl here ↦
            let tracked : is_tracked x v ≡ true = (and_parts _ _ (and_parts _ _ is).0).1 in
            rw (here, eq-eqb v v refl, tracked, sym (latched_timed settings (round_of x v).decision (now, reason)))
            (work_put x v s)
        | inr apart ↦ rw (ne_eqb w v apart, untimed settings (round_of x w).decision)
            (work_elsewhere x v w s (ne_eqb w v apart))
      ]

module _ {K L D : Type 0} (same : D → D → Bool) (elect : Elect L) (x : StateFacts K L D) where
  pub trigger_works : (v : ℕ) (reason : TimeoutReason) (now : ℕ)
      → WorkFollows same elect (TriggerTimeout v reason now) x (after_trigger_timeout x v reason now)
  trigger_works v reason now = shared_follows same elect x e (λ w. refl) (after_trigger_timeout x v reason now)
      (shared_triggered (at_moment x now) v reason now)
      (λ w _. work_triggered (at_moment x now) v reason now x.settings w ∙ rw (unentered x e w refl) refl)
    where
      e : Event K D
      e = TriggerTimeout v reason now

  -- a failed verification times the view out, or takes a binding away
  pub failed_works : (v : ℕ) (reason : TimeoutReason) (now : ℕ)
      → WorkFollows same elect (VerificationFailed v reason now) x (after_verification_failed same elect x v reason now)
  failed_works v reason now = by_binding (verification_matches same elect x v) refl
    where
      a : StateFacts K L D
      a = at_moment x now

      e : Event K D
      e = VerificationFailed v reason now

      s : RoundFacts K D
      s = record (round_of x v) { binding = None }

      by_binding : (b : Bool) → verification_matches same elect x v ≡ b
          → WorkFollows same elect e x (if b then with_timeout a v reason now else without_binding a v)
      by_binding true holds = shared_follows same elect x e (λ w. refl) (with_timeout a v reason now)
          (shared_triggered a v reason now) (λ w _. work_triggered a v reason now x.settings w
          ∙ rw (unentered x e w refl, holds, and-false (is_at x w v), and-true (eqb w v)) refl)
      by_binding false fails = tracked_follows same elect x e (λ w. refl) now v s unbound idle
        where
          unbound : is_tracked x v ≡ true → work_in true s ≡ adds_work same elect x e v (work_in true (round_of x v))
          unbound tracked = rw (
            unentered x e v refl,
            fails,
            eq-eqb v v refl,
            tracked,
            untimed x.settings (round_of x v).decision,
          ) refl

          idle : (w : ℕ) → is_at x w v ≡ false → SaysNoWork same elect x e w
          idle w apart k = rw (unentered x e w refl, fails, apart, and-false (eqb w v), untimed x.settings k.decision)
              refl

  -- the first poll of the current view that finds a vote to nullify decided gives its repeat a moment
  pub next_timeout_works : (now : ℕ) → WorkFollows same elect (NextTimeout now) x (after_next_timeout x now)
  next_timeout_works now = tracked_follows same elect x e (λ w. refl) now x.current s
      (λ tracked. by_retry tracked (awaits_retry r) refl) idle
    where
      e : Event K D
      e = NextTimeout now

      r : RoundFacts K D
      r = round_of x x.current

      s : RoundFacts K D
      s = round_with_retry x now

      again : ℕ
      again = now + x.settings.timeout_retry

      by_retry : is_tracked x x.current ≡ true → (b : Bool) → awaits_retry r ≡ b
          → work_in true s ≡ adds_work same elect x e x.current (work_in true r)
      by_retry tracked true is =
          let waits : has_no_retry r.decision ≡ true =
          (and_parts (not (is_some r.finalization)) (has_no_retry r.decision) is).1 in
          rw (unentered x e x.current refl, eq-eqb x.current x.current refl, tracked, is)
          (ap (λ d. record (work_in true r) { decision = d }) (repeated x.settings r.decision again waits))
      by_retry tracked false is = rw (
        unentered x e x.current refl,
        eq-eqb x.current x.current refl,
        tracked,
        is,
        untimed x.settings r.decision,
      ) refl

      idle : (w : ℕ) → is_at x w x.current ≡ false → SaysNoWork same elect x e w
      idle w apart k = rw (unentered x e w refl, apart, untimed x.settings k.decision) refl
