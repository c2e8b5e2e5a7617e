-- An ignored input, and what it changes.
use Rattle.std.specs.Prelude.{◌≡◌, ℕ}
use Rattle.simplex_member.specs.Calls.{TriggerTimeout, Certified}
use Rattle.simplex_member.specs.MemberFacts.{MemberFacts}
use Rattle.simplex_engine.specs.declared.engine.Engine.{Engine}
use Rattle.simplex_engine.specs.declared.input.Input.{Input}
use Rattle.simplex_engine.specs.declared.input.Input.TheVariants as input
use Rattle.engine_votes.specs.StoredVotes.{HoldsAllTheSame}
use Rattle.engine_outbox.specs.Refusals.{IsLeftByCall}

module _ {S L D K G C : Type 0} where
  -- what an ignored input changes of the member: nothing, except what a reason of a timeout or a verdict changes
  abbrev pub IsLeftByInput : ℕ → Input S D K G C → MemberFacts K L D → MemberFacts K L D → Type 0
  IsLeftByInput now (input.GivenUp view reason) m left = IsLeftByCall (TriggerTimeout view reason now) m left
  IsLeftByInput now (input.Certified view success) m left = IsLeftByCall (Certified view success now) m left
  IsLeftByInput now _ m left = left ≡ m

  -- the member ignored an input, and no vote was taken
  pub record IsDropped (now : ℕ) (what : Input S D K G C) (old new : Engine S L D K G C) : Type 0 where
    pub member : IsLeftByInput now what old.core.member.facts new.core.member.facts
    pub votes : HoldsAllTheSame old.batcher new.batcher
