-- Each verdict that an engine passes is on an offer.
use Rattle.std.proofs.Common.{◌≡◌, ap, sym, subst, ℕ, inl, inr, Bool, List, [], ◌∷◌, ◌++◌, map}
use Rattle.simplex_types.specs.Certificates.{CertificateFacts, Notarized, Nullified, Finalized}
use Rattle.simplex_voter.specs.Facts.{Elect}
use Rattle.simplex_member.specs.Calls.{CallFacts, Certified, ReplyFacts, reply_facts}
use Rattle.simplex_member.specs.MemberFacts.{MemberFacts}
use Rattle.simplex_member.specs.Runs.{StepFacts, Calls, Prunes, Restarts}
use Rattle.simplex_member.specs.declared.member.calls.Reply.{Reply}
use Rattle.engine_fetches.specs.declared.fetches.FetchKind.{FetchKind}
use Rattle.engine_outbox.specs.CertificateCalls.{certificate_call}
use Rattle.engine_planner.specs.FetchRequests.{with_missing_certificate}
use Rattle.engine_planner.specs.Causes.{Cause}
use Rattle.simplex_engine.specs.Provenance.{step_causes, IsCausedBy, IsCallCaused, IsStepCaused}
use Rattle.simplex_engine.specs.declared.engine.Engine.{Engine}
use Rattle.laws_chains.specs.Offers.{IsStepOnOffer, IsRunOnOffers}
use Rattle.laws_engine.specs.Offers.{CallOf, ContinuesBy}

-- a verdict passes no certificate
no_certificate : {D : Type 0} (now view : ℕ) (success : Bool) (at : ℕ) (certificate : CertificateFacts D)
    → Certified view success at ≡ certificate_call certificate now → ⊥
no_certificate now view success at (Notarized c) is = cc
no_certificate now view success at (Nullified c) is = cc
no_certificate now view success at (Finalized c) is = cc

module _ {S L D K G C : Type 0} (now : ℕ) where
  call_on_offer : (causes : List (Cause S D K G C)) (m : MemberFacts K L D) (call : CallFacts D)
      → IsCallCaused now causes m call → IsStepOnOffer m (Calls call)
  call_on_offer causes m (Certified view success at) (inl (asked, is, of_these, on_offer)) = on_offer
  call_on_offer causes m (Certified view success at) (inr (inl (from, proposal, is, in_these, admits))) = absurd (cc)
  call_on_offer causes m (Certified view success at) (inr (inr (certificate, is, in_these))) =
      absurd (no_certificate now view success at certificate is)
  call_on_offer causes m call meant = tt

  step_on_offer : (causes : List (Cause S D K G C)) (m : MemberFacts K L D) (step : StepFacts K L D)
      → IsStepCaused now causes m step → IsStepOnOffer m step
  step_on_offer causes m (Calls call) meant = call_on_offer causes m call meant
  step_on_offer causes m Prunes meant = tt
  step_on_offer causes m (Restarts restart) meant = absurd meant

module _ {S L D K G C : Type 0} (same : D → D → Bool) (elect : Elect L) (bytes_of : C → List ℕ) (now : ℕ)
    (asks_now over : FetchKind → ℕ → Bool) where
  pub steps_on_offers : (steps : List (StepFacts K L D × Reply S D K G C)) (causes left : List (Cause S D K G C))
      (asked : FetchKind → ℕ → Bool) (m end : MemberFacts K L D)
      → IsCausedBy same elect bytes_of now asks_now over steps causes asked m left end
      → IsRunOnOffers same elect m (map (λ e. e.0) steps) (map (λ e. reply_facts bytes_of e.1) steps) end
  steps_on_offers [] causes left asked m end (among, is, still, sought) = sym is
  steps_on_offers ((step, reply) ∷ rest) causes left asked m end (meant, next, is_step, provenance) =
      let given : List (Cause S D K G C) = step_causes {L = L} now step reply in (
        step_on_offer now causes m step meant,
        next,
        is_step,
        steps_on_offers rest (causes ++ given) left (with_missing_certificate asked given) next end provenance,
      )

module _ {L D K : Type 0} (same : D → D → Bool) (elect : Elect L) where
  pub runs_join : (first middle last : MemberFacts K L D) (steps more : List (StepFacts K L D))
      (replies others : List (ReplyFacts K D)) → IsRunOnOffers same elect first steps replies middle
      → IsRunOnOffers same elect middle more others last
      → IsRunOnOffers same elect first (steps ++ more) (replies ++ others) last
  runs_join first middle last [] more [] others is then =
      subst (λ m. IsRunOnOffers same elect m more others last) (sym is) then
  runs_join first middle last [] more (reply ∷ replies) others is then = absurd is
  runs_join first middle last (step ∷ steps) more [] others is then = absurd is
  runs_join first middle last (step ∷ steps) more (reply ∷ replies) others (on_offer, next, is_step, run) then =
      (on_offer, next, is_step, runs_join next middle last steps more replies others run then)

-- all calls of a lifetime
pub lifetime_on_offers : {S L D K G C : Type 0} (same : D → D → Bool) (elect : Elect L) (bytes : D → List ℕ)
    (bytes_of : C → List ℕ) (first last : Engine S L D K G C) (calls : List (CallOf S L D K G C))
    → ContinuesBy same elect bytes bytes_of first calls last
    → (steps : List (StepFacts K L D)) × (replies : List (ReplyFacts K D))
    × IsRunOnOffers same elect first.core.member.facts steps replies last.core.member.facts
lifetime_on_offers same elect bytes bytes_of first last [] is =
    ([], [], ap (λ (e : Engine _ _ _ _ _ _). e.core.member.facts) is)
lifetime_on_offers {L = L} {D = D} {K = K} same elect bytes bytes_of first last (call ∷ calls) (it, rest) =
    let later = lifetime_on_offers same elect bytes bytes_of call.left last calls rest in
    let steps : List (StepFacts K L D) = map (λ e. e.0) it.steps in
    let replies : List (ReplyFacts K D) = map (λ e. reply_facts bytes_of e.1) it.steps in (
      steps ++ later.0,
      replies ++ later.1,
      runs_join same elect first.core.member.facts call.left.core.member.facts last.core.member.facts steps later.0
          replies later.1
          (steps_on_offers same elect bytes_of call.now _ _ it.steps _ _ _ _ _ it.by_steps) later.2,
    )
