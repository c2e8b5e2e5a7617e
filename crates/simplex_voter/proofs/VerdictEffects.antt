-- The effect of a verdict, step by step.
use Rattle.std.proofs.Common.{◌≡◌, ℕ, ◌+◌, ◌<◌, ◌≤◌, ◌^◌, ltb, Bool, true, false, cond, Result, Ok, Err, OnOk, refl, ap, sym, ◌∙◌, arith}
use Rattle.std.proofs.lemmas.Bool.{false≢true}
use Rattle.simplex_types.specs.declared.reasons.TimeoutReason.{TimeoutReason}
use Rattle.simplex_types.specs.declared.reasons.TimeoutReason.TheVariants.{FailedCertification}
use Rattle.simplex_round.specs.Round.{with_latch}
use Rattle.simplex_voter.specs.declared.voter.rounds.Deadlines.{Deadlines}
use Rattle.simplex_voter.specs.Facts.{StateFacts, Elect, is_tracked, round_of, with_round}
use Rattle.simplex_voter.specs.StateView.{largest_current}
use Rattle.simplex_voter.specs.Setup.{HasSameSetup, deadlines_at}
use Rattle.simplex_voter.specs.ViewEntry.{at_moment, with_view_entered}
use Rattle.simplex_voter.specs.Timeouts.{can_trigger, with_timeout}
use Rattle.simplex_voter.specs.Certification.{with_verdict, takes_verdict, with_waiting_candidate, verdict_taken}

-- the view after a notarized one may be entered, and has a next one in 64 bits
pub next_enterable : (v next : ℕ) → next ≡ v + 1 → v < 2 ^ 63 → next ≤ largest_current
next_enterable v next is below = omega (arith, is, below)

pub next_countable : (v : ℕ) → v < 2 ^ 63 → v + 1 < 2 ^ 64
next_countable v below = omega (arith, below)

module _ {K L D : Type 0} (elect : Elect L) where
  taken_false : (x : StateFacts K L D) (v now : ℕ) (b : Bool) → b ≡ false
      → with_timeout (with_verdict x v b) v FailedCertification now ≡ verdict_taken elect x v b now
  taken_false x v now false refused = refl
  taken_false x v now true refused = absurd (false≢true (sym refused))

  taken_true : (x : StateFacts K L D) (v now : ℕ) (b : Bool) → b ≡ true
      → with_waiting_candidate elect (with_view_entered (with_verdict x v b) (v + 1) now) v ≡ verdict_taken elect x v b
      now
  taken_true x v now true accepted = refl
  taken_true x v now false accepted = absurd (false≢true accepted)

-- a timeout keeps the setup of the state
module _ {K L D : Type 0} (x y z : StateFacts K L D) (v now : ℕ) (reason : TimeoutReason)
    (is : z ≡ with_timeout y v reason now) where
  stays : {A : Type 0} (f : StateFacts K L D → A) → f (with_round y v (with_latch (round_of y v) now reason)) ≡ f y
      → f z ≡ f y
  stays f same = ap f is ∙ elim (can_trigger y v reason) as
      (λ b. f (cond b (with_round y v (with_latch (round_of y v) now reason)) y) ≡ f y) [
        | true ↦ same
        | false ↦ refl
      ]

  pub setup_triggered : HasSameSetup x y → HasSameSetup x z
  setup_triggered setup = record {
    failed = stays (λ w. w.failed) refl ∙ setup.failed;
    settings = stays (λ w. w.settings) refl ∙ setup.settings;
    me = stays (λ w. w.me) refl ∙ setup.me;
    members = stays (λ w. w.members) refl ∙ setup.members;
    elector = stays (λ w. w.elector) refl ∙ setup.elector;
    terms = stays (λ w. w.terms) refl ∙ setup.terms;
    elects_early = stays (λ w. w.elects_early) refl ∙ setup.elects_early;
  }

-- x is what was known, m at the moment, j with the verdict
module _ {K L D : Type 0} (elect : Elect L) (x m j : StateFacts K L D) (v now : ℕ) (success : Bool)
    (noted : m ≡ at_moment x now) where
  pub taken_at_moment : takes_verdict x v success ≡ true → takes_verdict m v success ≡ true
  taken_at_moment taken = ap (λ w. takes_verdict w v success) noted ∙ taken

  pub tracked_at_moment : is_tracked x v ≡ true → is_tracked m v ≡ true
  tracked_at_moment tracked = ap (λ w. is_tracked w v) noted ∙ tracked

  module _ (judges : j ≡ with_verdict m v success) where
    judged_then : j ≡ with_verdict (at_moment x now) v success
    judged_then = judges ∙ ap (λ w. with_verdict w v success) noted

    pub setup_judged : HasSameSetup x j
    setup_judged = record {
      failed = ap (λ z. z.failed) judged_then;
      settings = ap (λ z. z.settings) judged_then;
      me = ap (λ z. z.me) judged_then;
      members = ap (λ z. z.members) judged_then;
      elector = ap (λ z. z.elector) judged_then;
      terms = ap (λ z. z.terms) judged_then;
      elects_early = ap (λ z. z.elects_early) judged_then;
    }

    pub deadlines_judged : (next : ℕ) (d : Deadlines) → next ≡ v + 1 → success ≡ true
        → (success ≡ true → ltb x.current (v + 1) ≡ true → d ≡ deadlines_at x now) → ltb j.current next ≡ true
        → d ≡ deadlines_at j now
    deadlines_judged next d is accepted before ahead =
        before accepted (sym (ap (λ w. ltb w next) (ap (λ z. z.current) judged_then) ∙ ap (ltb x.current) is) ∙ ahead)
        ∙ sym (ap (λ z. deadlines_at z now) judged_then)

    pub verdict_refused : success ≡ false → (y : StateFacts K L D) → y ≡ with_timeout j v FailedCertification now
        → y ≡ verdict_taken elect (at_moment x now) v success now
    verdict_refused refused y triggers =
        triggers ∙ ap (λ w. with_timeout w v FailedCertification now) judged_then
        ∙ taken_false elect (at_moment x now) v now success refused

    pub verdict_kept : {A E : Type 0} (r : Result A E) → success ≡ true → (e y : StateFacts K L D) (next : ℕ)
        → next ≡ v + 1 → e ≡ with_view_entered j next now → OnOk r (y ≡ with_waiting_candidate elect e v)
        → OnOk r (y ≡ verdict_taken elect (at_moment x now) v success now)
    verdict_kept (Ok t) accepted e y next is enters wakes =
        wakes ∙ ap (λ w. with_waiting_candidate elect w v)
        (enters ∙ ap (λ n. with_view_entered j n now) is ∙ ap (λ w. with_view_entered w (v + 1) now) judged_then)
        ∙ taken_true elect (at_moment x now) v now success accepted
    verdict_kept (Err f) accepted e y next is enters wakes = wakes
