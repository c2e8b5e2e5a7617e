-- A member that receives verdicts only on its offers, step by step.
use Rattle.std.specs.Prelude.{◌≡◌, Bool, true, List, [], ◌∷◌}
use Rattle.simplex_voter.specs.Facts.{Elect}
use Rattle.simplex_member.specs.Calls.{Certified, ReplyFacts}
use Rattle.simplex_member.specs.MemberFacts.{MemberFacts}
use Rattle.simplex_member.specs.OutstandingWork.{is_offered}
use Rattle.simplex_member.specs.Runs.{StepFacts, Calls, IsStep}
use Rattle.laws_safety.specs.Continuations.{EachHonest}
use Rattle.laws_safety.specs.Executions.{new_member, Execution}
use Rattle.laws_safety.specs.Replicas.{Replica}
use Rattle.laws_chains.specs.Chains.{VerdictsAreOnOffers}

-- a verdict is on a proposal that the member offered and that has none; any other step may be taken
abbrev pub IsStepOnOffer : {K L D : Type 0} → MemberFacts K L D → StepFacts K L D → Type 0
IsStepOnOffer m (Calls (Certified view _ _)) = is_offered m.outstanding_work view ≡ true
IsStepOnOffer m _ = Unit {0}

module _ {K L D : Type 0} (same : D → D → Bool) (elect : Elect L) where
  -- a member takes these steps, each with its reply, and each verdict is on an offer
  abbrev pub IsRunOnOffers : MemberFacts K L D → List (StepFacts K L D) → List (ReplyFacts K D)
      → MemberFacts K L D → Type 0
  IsRunOnOffers m [] [] end = m ≡ end
  IsRunOnOffers m [] (replied ∷ rest) end = ⊥
  IsRunOnOffers m (step ∷ steps) [] end = ⊥
  IsRunOnOffers m (step ∷ steps) (replied ∷ rest) end =
      IsStepOnOffer m step × (next : MemberFacts K L D) × IsStep same elect m step replied next
      × IsRunOnOffers next steps rest end

  -- in all its lifetimes a member receives verdicts only on its offers
  abbrev pub RunsOnOffers : Execution K L D → Type 0
  RunsOnOffers s = (end : MemberFacts K L D) × IsRunOnOffers (new_member same elect s.start) s.steps s.replies end

  -- if each honest member receives verdicts only on its offers, it offered each proposal that a verdict found good
  abbrev pub OffersAreAwaited : List (Replica K L D) → Type 0
  OffersAreAwaited network = EachHonest network (λ i s. RunsOnOffers s) → VerdictsAreOnOffers network
