-- What a continuation of a network is, in words that a host can check, and how little one exchange of messages brings.
use Rattle.std.specs.Prelude.{◌≡◌, ℕ, ◌≤◌, ◌<◌, ◌⊎◌, Bool, List, length, slice_get, Contains, Some}
use Rattle.simplex_types.specs.declared.types.messages.Proposal.{Proposal}
use Rattle.simplex_types.specs.declared.types.messages.Subject.{Subject}
use Rattle.simplex_types.specs.declared.types.messages.Subject.TheVariants.{Notarize, Finalize}
use Rattle.simplex_voter.specs.Facts.{Elect}
use Rattle.simplex_member.specs.Calls.{SetProposal, Proposed}
use Rattle.simplex_member.specs.Runs.{Calls}
use Rattle.laws_safety.specs.Continuations.{ReplicasContinue, EachHonest, SomeHonest, HonestlyBacked, ContinuesToFinalize}
use Rattle.laws_safety.specs.Traces.{TraceEvent, Accepts, Signs}
use Rattle.laws_safety.specs.Replicas.{Replica, Honest, faults, max_faults, Backed, IsNetworkOf}
use Rattle.laws_safety.specs.Executions.{Execution, trace_of}
use Rattle.laws_progress.specs.MessageExchanges.{Exchanges}

module _ {K L D : Type 0} where
  -- an honest member accepted the certificate, received the proposal as one of the view, passed its payload as built,
  -- or voted for it
  abbrev pub IsAccepted : Subject D → List (Replica K L D) → Type 0
  IsAccepted c network = SomeHonest network (λ i s. Contains (trace_of s) (Accepts c))

  abbrev pub IsReceivedByOne : ℕ → Proposal D → List (Replica K L D) → Type 0
  IsReceivedByOne v p network = SomeHonest network (λ i s. Contains s.steps (Calls (SetProposal v p)))

  abbrev pub IsGiven : Proposal D → List (Replica K L D) → Type 0
  IsGiven p network = SomeHonest network
      (λ i s. (now : ℕ) × Contains s.steps (Calls (Proposed p.round.view p.payload now)))

  abbrev pub IsVotedFor : Proposal D → List (Replica K L D) → Type 0
  IsVotedFor p network = SomeHonest network (λ i s. Contains (trace_of s) (Signs i (Notarize p)))

  -- no honest member accepted later what none had accepted before and the honest ones of this network don't make alone
  abbrev pub AcceptsNoForged : (before voting later : List (Replica K L D)) → Type 0
  AcceptsNoForged before voting later =
      (c : Subject D) → (IsAccepted c before → ⊥) → (HonestlyBacked voting c → ⊥) → IsAccepted c later → ⊥

  -- none received later what none had received before and none of this network voted for, or none passed as built
  abbrev pub ReceivesNoForged : (before building later : List (Replica K L D)) → Type 0
  ReceivesNoForged before building later =
      (v : ℕ) (p : Proposal D) → (IsReceivedByOne v p before → ⊥) → (IsVotedFor p building → ⊥)
      ⊎ (IsGiven p building → ⊥) → IsReceivedByOne v p later → ⊥

module _ (K : Type 0) {L D : Type 0} (same : D → D → Bool) (elect : Elect L) where
  -- if a network can finalize, the later one keeps the premises of agreement, its members are the same ones, and the
  -- honest ones have done what they had done
  abbrev pub MembersContinue : Type 0
  MembersContinue =
      (term_length : ℕ) (network later : List (Replica K L D)) (final : Proposal D)
      → IsNetworkOf same elect term_length network
      → ContinuesToFinalize same elect term_length network later final
      → IsNetworkOf same elect term_length later × (length later ≡ length network) × (faults later ≡ faults network)
      × EachHonest network (λ i s. (t : Execution K L D) × (slice_get later i ≡ Some (Honest t)) × (t.start ≡ s.start)
      × ((d : TraceEvent D) → Contains (trace_of s) d → Contains (trace_of t) d))

  -- no proposal of the finalized view or above could be finalized before; now each honest member has signed the vote to
  -- finalize this one and accepted its finalization, which the honest members alone make
  abbrev pub FinalizationsAreNew : Type 0
  FinalizationsAreNew =
      (term_length : ℕ) (network later : List (Replica K L D)) (final : Proposal D)
      → IsNetworkOf same elect term_length network
      → ContinuesToFinalize same elect term_length network later final
      → ((p : Proposal D) → final.round.view ≤ p.round.view → Backed network (Finalize p) → ⊥)
      × EachHonest later (λ i t. Contains (trace_of t) (Signs i (Finalize final))
      × Contains (trace_of t) (Accepts (Finalize final))
      × HonestlyBacked later (Finalize final))

  -- and nothing that faulty members made arrived
  abbrev pub NothingIsForged : Type 0
  NothingIsForged =
      (term_length : ℕ) (network later : List (Replica K L D)) (final : Proposal D)
      → ContinuesToFinalize same elect term_length network later final
      → AcceptsNoForged network later later × ReceivesNoForged network later later

  -- so if more than f are faulty, and any member is honest, no network can finalize
  abbrev pub TooManyAreFaulty : Type 0
  TooManyAreFaulty =
      (term_length : ℕ) (network later : List (Replica K L D)) (final : Proposal D)
      → IsNetworkOf same elect term_length network
      → max_faults (length network) < faults network
      → EachHonest network (λ i s. ContinuesToFinalize same elect term_length network later final → ⊥)

  -- exchanges of messages continue a network
  abbrev pub ExchangesContinue : Type 0
  ExchangesContinue = (count : ℕ) (network later : List (Replica K L D)) → Exchanges count network later
      → ReplicasContinue network later

  -- one exchange brings what had been signed or built before it
  abbrev pub ExchangesBringWhatWas : Type 0
  ExchangesBringWhatWas =
      (network later : List (Replica K L D)) → Exchanges 1 network later → AcceptsNoForged network network later
      × ReceivesNoForged network network later

  -- so no view is finalized within one, if any member is honest
  abbrev pub OneExchangeIsTooFew : Type 0
  OneExchangeIsTooFew =
      (term_length : ℕ) (network later : List (Replica K L D)) (final : Proposal D)
      → IsNetworkOf same elect term_length network
      → EachHonest later (λ i t.
      Exchanges 1 network later → ContinuesToFinalize same elect term_length network later final → ⊥)
