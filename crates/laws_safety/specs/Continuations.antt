-- How a network continues and finalizes a view, by actions of its honest members alone.
use Rattle.std.specs.Prelude.{◌≡◌, ℕ, ◌<◌, ◌⊎◌, ⊤, Bool, List, [], ◌∷◌, ◌++◌, length, map, slice_get, Contains, Some}
use Rattle.simplex_types.specs.declared.types.messages.Proposal.{Proposal}
use Rattle.simplex_types.specs.declared.types.messages.Subject.{Subject}
use Rattle.simplex_types.specs.declared.types.messages.Subject.TheVariants.{Notarize, Finalize}
use Rattle.simplex_voter.specs.Facts.{Elect}
use Rattle.simplex_member.specs.Calls.{SetProposal, Proposed, ReplyFacts}
use Rattle.simplex_member.specs.Runs.{StepFacts, Calls}
use Rattle.laws_safety.specs.Traces.{Accepts, Signs}
use Rattle.laws_safety.specs.Replicas.{Replica, Faulty, Honest, AtLeastFrom, quorum, Backed, IsNetworkOf}
use Rattle.laws_safety.specs.Executions.{Execution, trace_of}

module _ {K L D : Type 0} where
  -- an execution with more steps, each beside its reply
  abbrev pub and_then : Execution K L D → List (StepFacts K L D × ReplyFacts K D) → Execution K L D
  and_then s more = record s { steps = s.steps ++ map (λ e. e.0) more; replies = s.replies ++ map (λ e. e.1) more }

  -- the first execution continues as the second
  abbrev pub ExecutionContinues : Execution K L D → Execution K L D → Type 0
  ExecutionContinues s later = (more : List (StepFacts K L D × ReplyFacts K D)) × (later ≡ and_then s more)

  -- each member stays the same: a faulty one, or an honest one whose execution continues
  abbrev pub ReplicasContinue : List (Replica K L D) → List (Replica K L D) → Type 0
  ReplicasContinue [] [] = ⊤
  ReplicasContinue (Faulty ∷ network) (Faulty ∷ later) = ReplicasContinue network later
  ReplicasContinue (Honest s ∷ network) (Honest t ∷ later) = ExecutionContinues s t × ReplicasContinue network later
  ReplicasContinue _ _ = ⊥

  -- of each honest member
  abbrev pub EachHonest : List (Replica K L D) → (ℕ → Execution K L D → Type 0) → Type 0
  EachHonest network P = (i : ℕ) (s : Execution K L D) → slice_get network i ≡ Some (Honest s) → P i s

  -- of some honest member
  abbrev pub SomeHonest : List (Replica K L D) → (ℕ → Execution K L D → Type 0) → Type 0
  SomeHonest network P = (i : ℕ) × (s : Execution K L D) × (slice_get network i ≡ Some (Honest s)) × P i s

  -- member `i` signed this vote, as `i`
  abbrev pub HasSignedAs : Subject D → ℕ → Execution K L D → Type 0
  HasSignedAs vote i s = Contains (trace_of s) (Signs i vote)

  -- it accepted this certificate
  abbrev pub HasAccepted : Subject D → ℕ → Execution K L D → Type 0
  HasAccepted certificate i s = Contains (trace_of s) (Accepts certificate)

  -- it received this proposal as one of this view
  abbrev pub HasReceived : ℕ → Proposal D → Execution K L D → Type 0
  HasReceived v p s = Contains s.steps (Calls (SetProposal v p))

  -- it built this proposal, and signed its own vote for it
  abbrev pub HasBuilt : Proposal D → ℕ → Execution K L D → Type 0
  HasBuilt p i s = ((now : ℕ) × Contains s.steps (Calls (Proposed p.round.view p.payload now)))
      × HasSignedAs (Notarize p) i s

  -- an honest member signed this vote
  abbrev pub IsHonestlySigned : Subject D → ℕ → Replica K L D → Type 0
  IsHonestlySigned vote i Faulty = ⊥
  IsHonestlySigned vote i (Honest s) = HasSignedAs vote i s

  -- enough honest members signed it to make a certificate of it alone
  abbrev pub HonestlyBacked : List (Replica K L D) → Subject D → Type 0
  HonestlyBacked network vote = AtLeastFrom 0 (quorum (length network)) (IsHonestlySigned vote) network

module _ {K L D : Type 0} (same : D → D → Bool) (elect : Elect L) where
  -- the network may continue as this later one, where this proposal is finalized, by actions of its honest members
  -- alone
  pub record ContinuesToFinalize (term_length : ℕ) (network later : List (Replica K L D))
      (final : Proposal D) : Type 0 where
    pub continues : ReplicasContinue network later
    -- each honest member runs, and each certificate that it accepts is backed
    pub runs : IsNetworkOf same elect term_length later
    -- a certificate that an honest member accepts was accepted by an honest one before, or honest ones alone make it
    pub certificates : EachHonest later
        (λ i s. (c : Subject D) → HasAccepted c i s → SomeHonest network (HasAccepted c) ⊎ HonestlyBacked later c)
    -- a proposal that it receives was received by an honest one before, or an honest one built it
    pub proposals : EachHonest later (λ i s. (v : ℕ) (p : Proposal D) → HasReceived v p s
        → SomeHonest network (λ j t. HasReceived v p t) ⊎ SomeHonest later (HasBuilt p))
    -- each signs the vote to finalize the proposal, and accepts its finalization
    pub finalized : EachHonest later (λ i s. HasSignedAs (Finalize final) i s × HasAccepted (Finalize final) i s)
    -- the view lies above each that could be finalized before
    pub new : (p : Proposal D) → Backed network (Finalize p) → p.round.view < final.round.view
