-- Certificates and verdicts keep what the facts show of the votes.
use Rattle.std.proofs.Common.{◌≡◌, refl, ap, subst, ℕ, ◌+◌, ◌<◌, inl, inr, Bool, true, false, List, [], ◌∷◌, ◌++◌, Contains, Some, arith}
use Rattle.simplex_types.specs.Certificates.{ProposalFacts, NullificationFacts}
use Rattle.simplex_types.specs.declared.types.messages.Subject.TheVariants as subject
use Rattle.simplex_voter.specs.Acceptance.{after_add_notarization, after_add_nullification, after_add_finalization}
use Rattle.simplex_voter.specs.Facts.{StateFacts, Elect, is_tracked}
use Rattle.simplex_voter.specs.ViewEntry.{at_moment, with_view_entered}
use Rattle.simplex_voter.specs.Certification.{with_verdict, verdict_taken, after_certified}
use Rattle.laws_safety.specs.Traces.{TraceEvent, Accepts}
use Rattle.simplex_record.specs.Events as event
use Rattle.simplex_record.specs.Events.{Event, after_event}
use Rattle.simplex_record.proofs.Paths.{to_woken}
use Rattle.laws_safety.proofs.frames.NoLowerViews.{goes_along}
use Rattle.laws_safety.proofs.frames.Sound.{entered_reaches}
use Rattle.laws_safety.proofs.votes.ShownVotes.{ShowsVotesInLife, latest, stays_accepted}
use Rattle.laws_safety.proofs.votes.ShownVotesBySteps.{Suits, plain_suits, stays_on}
use Rattle.simplex_record.proofs.Steps.{Still, verdict_by}

module _ {K L D : Type 0} (same : D → D → Bool) (elect : Elect L) (x : StateFacts K L D) (v now : ℕ) where
  -- a true verdict enters a later view
  verdict_passes : v < (verdict_taken elect (at_moment x now) v true now).current
  verdict_passes =
      let e : Event K D = event.Certified v true now in
      let y = with_view_entered (with_verdict (at_moment x now) v true) (v + 1) now in
      omega (
        arith,
        (goes_along same elect x e 0 y (verdict_taken elect (at_moment x now) v true now)
            (to_woken v Still)).current,
        entered_reaches (with_verdict (at_moment x now) v true) (v + 1) now,
      )

  pub certified_passes : (success : Bool) → is_tracked x v ≡ true → success ≡ true
      → v < (after_certified elect x v success now).current
  certified_passes success tracked is = rw (is, tracked) verdict_passes

  pub certified_suits : (trace : List (TraceEvent D)) (success : Bool) → is_tracked x v ≡ true
      → Suits trace (after_certified elect x v success now).current x (event.Certified v success now)
  certified_suits trace success tracked = plain_suits trace _ x (event.Certified v success now) refl refl refl refl
      (λ w says. enters w says)
    where
      enters : (w : ℕ) → verdict_by {K = K} {D = D} (event.Certified v success now) ≡ Some (w, true)
          → w < (after_certified elect x v success now).current
      enters w says =
          let pair : (v, success) ≡ (w, true) = cc in
          let at : v ≡ w = ap (λ (p : ℕ × Bool). p.0) pair in
          let passed = certified_passes success tracked (ap (λ (p : ℕ × Bool). p.1) pair) in
          omega (arith, at, passed)

module _ {K L D : Type 0} (same : D → D → Bool) (decides : (d e : D) → same d e ≡ true → d ≡ e) (elect : Elect L)
    (term_length : ℕ) (trace : List (TraceEvent D)) (x : StateFacts K L D)
    (stays : ShowsVotesInLife term_length trace x) where
  moment_stays : (now : ℕ) → ShowsVotesInLife term_length trace (at_moment x now)
  moment_stays now = record {
    stands = record {
      terms = stays.stands.terms;
      rounds = stays.stands.rounds;
      passed = stays.stands.passed;
      noted = stays.stands.noted;
    };
    ahead = stays.ahead;
    final = stays.final;
  }

  pub certified_stays : (v : ℕ) (success : Bool) (now : ℕ)
      → ShowsVotesInLife term_length trace (after_certified elect x v success now)
  certified_stays v success now = by_tracked (is_tracked x v) refl
    where
      by_tracked : (b : Bool) → is_tracked x v ≡ b
          → ShowsVotesInLife term_length trace (after_certified elect x v success now)
      by_tracked true tracked = stays_on same decides elect term_length trace x (event.Certified v success now)
          (certified_suits same elect x v now trace success tracked) stays
      by_tracked false gone = rw gone (moment_stays now)

  -- a certificate, once it is in the trace

  pub notarization_stays : (c : ProposalFacts D)
      → ShowsVotesInLife term_length (trace ++ Accepts (subject.Notarize c.proposal) ∷ [])
      (after_add_notarization same elect x c)
  notarization_stays c =
      let a = trace ++ Accepts (subject.Notarize c.proposal) ∷ [] in
      let e : Event K D = event.AddNotarization c in
      let suits : Suits a (after_event same elect x e).current x e = record {
        notarized = λ d says. (let alike : c ≡ d = cc in
            subst (λ (f : ProposalFacts D). Contains a (Accepts (subject.Notarize f.proposal))) alike
            (latest trace (Accepts (subject.Notarize c.proposal))));
        finalized = inl refl;
        enters = λ w says. absurd (cc);
        leaves = λ w says. absurd (cc);
        nullifies = λ w says. absurd (cc);
        finalizes = λ w says. absurd (cc);
      } in
      stays_on same decides elect term_length a x e suits
      (stays_accepted term_length trace (subject.Notarize c.proposal) x stays)

  pub nullification_stays : (c : NullificationFacts) (now : ℕ)
      → ShowsVotesInLife term_length (trace ++ Accepts (subject.Nullify c.round) ∷ [])
      (after_add_nullification elect x c now)
  nullification_stays c now =
      let a = trace ++ Accepts (subject.Nullify c.round) ∷ [] in
      let e : Event K D = event.AddNullification c now in
      stays_on same decides elect term_length a x e (plain_suits a _ x e refl refl refl refl (λ w says. absurd (cc)))
      (stays_accepted term_length trace (subject.Nullify c.round) x stays)

  pub finalization_stays : (c : ProposalFacts D) (now : ℕ)
      → ShowsVotesInLife term_length (trace ++ Accepts (subject.Finalize c.proposal) ∷ [])
      (after_add_finalization same elect x c now)
  finalization_stays c now =
      let a = trace ++ Accepts (subject.Finalize c.proposal) ∷ [] in
      let e : Event K D = event.AddFinalization c now in
      let suits : Suits a (after_event same elect x e).current x e = record {
        notarized = λ d says. absurd (cc);
        finalized = inr (c.proposal, latest trace (Accepts (subject.Finalize c.proposal)), refl);
        enters = λ w says. absurd (cc);
        leaves = λ w says. absurd (cc);
        nullifies = λ w says. absurd (cc);
        finalizes = λ w says. absurd (cc);
      } in
      stays_on same decides elect term_length a x e suits
      (stays_accepted term_length trace (subject.Finalize c.proposal) x stays)
