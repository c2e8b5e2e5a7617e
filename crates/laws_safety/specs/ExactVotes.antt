-- Which votes are signed, and when.
use Rattle.std.specs.Prelude.{◌≡◌, ℕ, ⊤, Bool, true, false, List, [], ◌∷◌, Contains, Option, Some, None, option_map}
use Rattle.simplex_types.specs.declared.types.messages.Proposal.{Proposal}
use Rattle.simplex_types.specs.declared.types.messages.Subject.{Subject}
use Rattle.simplex_types.specs.declared.types.messages.Subject.TheVariants as subject
use Rattle.simplex_voter.specs.Facts.{StateFacts, Elect, round_of, round_number}
use Rattle.simplex_voter.specs.Rules.{NotarizeRule, NullifyRule, FinalizeRule}
use Rattle.simplex_member.specs.Calls.{ConstructNotarize, ConstructNullify, ConstructFinalize, ReplyFacts, Refused}
use Rattle.simplex_member.specs.MemberFacts.{MemberFacts}
use Rattle.simplex_member.specs.Runs.{StepFacts, Calls, IsStep}
use Rattle.laws_safety.specs.Traces.{TraceEvent, Signs, signed_in}
use Rattle.laws_safety.specs.Executions.{new_member, Execution}

-- a call is refused for a fault
abbrev pub ends_in_fault : {K D : Type 0} → ReplyFacts K D → Bool
ends_in_fault (Refused fault) = true
ends_in_fault _ = false

module _ {D : Type 0} where
  -- the vote on this subject, by the member that the scheme signs as
  abbrev pub IsSignedFor : Option ℕ → Option (Subject D) → TraceEvent D → Type 0
  IsSignedFor me about d = (i : ℕ) × (vote : Subject D) × (me ≡ Some i) × (about ≡ Some vote) × (d ≡ Signs i vote)

module _ {K D : Type 0} where
  -- a vote is returned only if its rule holds, and signed accordingly; and if the rule holds and there is a key it is
  -- returned, unless the call is refused
  pub record IsExact (Rule : Type 0) (me : Option ℕ) (about : Option (Subject D))
      (replied : ReplyFacts K D) : Type 0 where
    pub only : (d : TraceEvent D) → Contains (signed_in replied) d → Rule × IsSignedFor me about d
    pub due : (d : TraceEvent D) → ends_in_fault replied ≡ false → Rule → IsSignedFor me about d
        → signed_in replied ≡ d ∷ []

-- the held proposal of a view
abbrev pub proposal_at : {K L D : Type 0} → StateFacts K L D → ℕ → Option (Proposal D)
proposal_at x v = (round_of x v).slot.held

module _ {K L D : Type 0} (same : D → D → Bool) (elect : Elect L) where
  -- by what the state knows before a step: the reply to each request for a vote is exactly by its rule, and no other
  -- reply has a vote
  abbrev pub ExactAt : Option (StateFacts K L D) → StepFacts K L D → ReplyFacts K D → Type 0
  ExactAt None step replied = signed_in replied ≡ []
  ExactAt (Some x) (Calls (ConstructNullify v)) replied =
      IsExact (NullifyRule x v) x.me (Some (subject.Nullify (round_number x v))) replied
  ExactAt (Some x) (Calls (ConstructFinalize v)) replied =
      IsExact (FinalizeRule elect x v) x.me (option_map subject.Finalize (proposal_at x v)) replied
  ExactAt (Some x) (Calls (ConstructNotarize v)) replied =
      IsExact (NotarizeRule same elect x v) x.me (option_map subject.Notarize (proposal_at x v)) replied
  ExactAt (Some x) _ replied = signed_in replied ≡ []

  -- this holds at each step of a run, for the very member that the steps before it left
  abbrev pub RunsExactly : MemberFacts K L D → List (StepFacts K L D) → List (ReplyFacts K D) → Type 0
  RunsExactly m [] [] = ⊤
  RunsExactly m [] (replied ∷ replies) = ⊥
  RunsExactly m (step ∷ steps) [] = ⊥
  RunsExactly m (step ∷ steps) (replied ∷ replies) =
      ExactAt m.life step replied
      × ((next : MemberFacts K L D) × IsStep same elect m step replied next × RunsExactly next steps replies)

  -- this holds from the start on
  abbrev pub SignsExactly : Execution K L D → Type 0
  SignsExactly s = RunsExactly (new_member same elect s.start) s.steps s.replies
