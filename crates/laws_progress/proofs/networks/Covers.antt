-- Nullifications that honest members accepted cover all views below one that was led to, down to what was finalized or
-- certified.
use Rattle.std.proofs.Common.{◌≡◌, refl, ap, sym, ◌∙◌, subst, inl, inr, ℕ, zero, suc, ◌<◌, ◌≤◌, Bool, true, List, [], ◌∷◌, slice_get, Contains, Some, arith}
use Rattle.std.proofs.lemmas.Bool.{cases_lt}
use Rattle.simplex_types.specs.Terms.{covers, next_term_start}
use Rattle.simplex_types.specs.declared.types.messages.Proposal.{Proposal}
use Rattle.simplex_types.specs.declared.types.messages.Subject.TheVariants as subject
use Rattle.simplex_types.specs.declared.types.numbers.Round.{Round}
use Rattle.simplex_types.proofs.Covers.{covers_from, same_start}
use Rattle.simplex_view_maps.proofs.Gaps.{next_above}
use Rattle.simplex_voter.specs.Facts.{Elect}
use Rattle.laws_safety.specs.Continuations.{SomeHonest, HasAccepted}
use Rattle.laws_safety.specs.Traces.{TraceEvent}
use Rattle.laws_safety.specs.Replicas.{Replica, Honest, IsNetworkOf}
use Rattle.laws_safety.specs.Executions.{Execution, trace_of}
use Rattle.laws_safety.proofs.agreement.Quorums.{shared_member}
use Rattle.laws_safety.proofs.lists.Splits.{Contains-cases, Contains-cons_rest}
use Rattle.laws_progress.specs.ViewCauses.{HasFinalized, HasCertified, IsLedTo, First, PastFinalized, PastCertified, PastNullified, judged_of}
use Rattle.laws_progress.proofs.runs.LedLives.{nullified_led}

-- a view that was led to is not genesis
pub led_some : {D : Type 0} (term_length epoch : ℕ) (trace : List (TraceEvent D)) (verdicts : List (Bool × Proposal D))
    (v : ℕ) → IsLedTo term_length epoch trace verdicts v → 1 ≤ v
led_some term_length epoch trace verdicts v (First is) = omega (arith, is)
led_some term_length epoch trace verdicts v (PastFinalized below h is) = omega (arith, is)
led_some term_length epoch trace verdicts v (PastCertified below h is) = omega (arith, is)
led_some term_length epoch trace verdicts v (PastNullified below h is) = omega (arith, is)

-- a nullification that an honest member accepted, which skips to a view above `low` and not above `high`
pub record Skips {K L D : Type 0} (term_length epoch : ℕ) (network : List (Replica K L D)) (low high : ℕ)
    (round : Round) : Type 0 where
  pub accepted : SomeHonest network (HasAccepted (subject.Nullify round))
  pub in_epoch : round.epoch ≡ epoch
  pub some : 1 ≤ round.view
  pub above : low < next_term_start term_length round.view
  pub below : next_term_start term_length round.view ≤ high

-- such nullifications, of which one skips to `top`, cover all from `low` up to it
pub record Covered {K L D : Type 0} (term_length epoch : ℕ) (network : List (Replica K L D)) (low high top : ℕ) : Type
    0 where
  pub rounds : List Round
  pub each : (round : Round) → Contains rounds round → Skips term_length epoch network low high round
  pub covering : (v : ℕ) → low ≤ v → v < top
      → (round : Round) × Contains rounds round × (covers term_length round.view v ≡ true)
  pub skips_to : (round : Round) × Contains rounds round × (next_term_start term_length round.view ≡ top)

module _ {K L D : Type 0} (same : D → D → Bool) (decides : (d e : D) → same d e ≡ true → d ≡ e) (elect : Elect L)
    (term_length epoch : ℕ) (some : 0 < term_length) (network : List (Replica K L D))
    (good : IsNetworkOf same elect term_length network) (low high : ℕ) (above_genesis : 1 ≤ low)
    (finalized_below : (v : ℕ) → v < high → SomeHonest network (λ i s. HasFinalized epoch (trace_of s) v) → v < low)
    (certified_below : (v : ℕ) → v < high → SomeHonest network (λ i s. HasCertified epoch (judged_of s) v)
    → v < low) where
  abbrev Cover : ℕ → Type 0
  Cover top = Covered term_length epoch network low high top

  -- one alone
  alone : (round : Round) → Skips term_length epoch network low high round → round.view ≤ low
      → Cover (next_term_start term_length round.view)
  alone round skips under = record {
    rounds = round ∷ [];
    each = λ r h. elim (Contains-cases round [] r h) [
      | inl here ↦ subst (Skips term_length epoch network low high) here skips
      | inr none ↦
          absurd (omega (arith, none.1))
    ];
    covering = λ v from less. (
      round,
      (0, omega arith, refl),
      covers_from term_length round.view v (omega (arith, from, under))
          (sym (same_start term_length round.view v skips.some (omega (arith, from, under)) less)),
    );
    skips_to = (round, (0, omega arith, refl), refl);
  }

  -- one more above
  one_more : (round : Round) → Skips term_length epoch network low high round → Cover round.view
      → Cover (next_term_start term_length round.view)
  one_more round skips rest = record {
    rounds = round ∷ rest.rounds;
    each = λ r h. elim (Contains-cases round rest.rounds r h)
        [ inl here ↦ subst (Skips term_length epoch network low high) here skips | inr later ↦ rest.each r later ];
    covering = λ v from less. elim (cases_lt v round.view) [
      | inl before ↦ (let found = rest.covering v from before in
          (found.0, Contains-cons_rest round rest.rounds found.0 found.1, found.2))
      | inr after ↦ (
        round,
        (0, omega arith, refl),
        covers_from term_length round.view v after (sym (same_start term_length round.view v skips.some after less)),
      )
    ];
    skips_to = (round, (0, omega arith, refl), refl);
  }

  -- each view that an honest member voted to nullify was led to by what honest members accepted and certified
  led_by_one : (round : Round) → SomeHonest network (HasAccepted (subject.Nullify round))
      → (k : ℕ) × (t : Execution K L D) × (slice_get network k ≡ Some (Honest t))
      × IsLedTo term_length round.epoch (trace_of t) (judged_of t) round.view
  led_by_one round (i, s, at, h) =
      let backs = good.backed i s (subject.Nullify round) at h in
      let one = shared_member network (subject.Nullify round) (subject.Nullify round) good.few_faulty backs backs in (
        one.0,
        one.1,
        one.2,
        nullified_led same decides elect term_length one.0 one.1 (good.honest one.0 one.1 one.2)
            round one.3,
      )

  skips_by : (round : Round) → SomeHonest network (HasAccepted (subject.Nullify round)) → round.epoch ≡ epoch
      → low < next_term_start term_length round.view → next_term_start term_length round.view ≤ high
      → Skips term_length epoch network low high round
  skips_by round accepted in_epoch above below =
      let led = led_by_one round accepted in
      record {
        accepted = accepted;
        in_epoch = in_epoch;
        some = led_some term_length round.epoch (trace_of led.1) (judged_of led.1) round.view led.3;
        above = above;
        below = below;
      }

  -- with all below those of a lower view
  covered_on : (bound : ℕ) (round : Round) → round.view < suc bound
      → SomeHonest network (HasAccepted (subject.Nullify round)) → round.epoch ≡ epoch
      → low < next_term_start term_length round.view → next_term_start term_length round.view ≤ high
      → ((r : Round) → r.view < bound → SomeHonest network (HasAccepted (subject.Nullify r)) → r.epoch ≡ epoch
      → low < next_term_start term_length r.view → next_term_start term_length r.view ≤ high
      → Cover (next_term_start term_length r.view))
      → Cover (next_term_start term_length round.view)
  covered_on bound round less accepted in_epoch above below behind = elim (cases_lt low round.view) [
    | inr under ↦ alone round skips under
    | inl over ↦ one_more round skips
        (by_led over (subst (λ n. IsLedTo term_length n (trace_of led.1) (judged_of led.1) round.view) in_epoch led.3))
  ]
    where
      skips : Skips term_length epoch network low high round
      skips = skips_by round accepted in_epoch above below

      led : (k : ℕ) × (t : Execution K L D) × (slice_get network k ≡ Some (Honest t))
          × IsLedTo term_length round.epoch (trace_of t) (judged_of t) round.view
      led = led_by_one round accepted

      next : round.view < next_term_start term_length round.view
      next = next_above term_length round.view some skips.some

      by_led : low < round.view → IsLedTo term_length epoch (trace_of led.1) (judged_of led.1) round.view
          → Cover round.view
      by_led over (First is) = absurd (omega (arith, over, is, above_genesis))
      by_led over (PastFinalized below_it h is) =
          absurd (let under = finalized_below below_it (omega (arith, is, next, below)) (led.0, led.1, led.2, h) in
          omega (arith, over, is, under))
      by_led over (PastCertified below_it h is) =
          absurd (let under = certified_below below_it (omega (arith, is, next, below)) (led.0, led.1, led.2, h) in
          omega (arith, over, is, under))
      by_led over (PastNullified below_it (r, h, (view, of_epoch)) is) =
          let starts : next_term_start term_length r.view ≡ round.view = ap (next_term_start term_length) view
          ∙ sym is in
          let there : SomeHonest network (HasAccepted (subject.Nullify r)) = (led.0, led.1, led.2, h) in
          let one = led_by_one r there in
          let lower = next_above term_length r.view some
          (led_some term_length r.epoch (trace_of one.1) (judged_of one.1) r.view one.3) in
          subst Cover starts (behind r (omega (arith, less, lower, starts)) there of_epoch (omega (arith, over, starts))
          (omega (arith, starts, next, below)))

  pub covered : (bound : ℕ) (round : Round) → round.view < bound
      → SomeHonest network (HasAccepted (subject.Nullify round)) → round.epoch ≡ epoch
      → low < next_term_start term_length round.view → next_term_start term_length round.view ≤ high
      → Cover (next_term_start term_length round.view)
  covered zero round less accepted in_epoch above below = absurd (omega (arith, less))
  covered (suc bound) round less accepted in_epoch above below =
      covered_on bound round less accepted in_epoch above below (covered bound)
