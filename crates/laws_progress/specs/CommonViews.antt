-- If the honest members can come to one view, the network can finalize a new one.
use Rattle.std.specs.Prelude.{◌≡◌, ℕ, suc, ◌≤◌, ◌⊎◌, Bool, false, List, length, slice_get, Some}
use Rattle.simplex_types.specs.Terms.{term_start}
use Rattle.simplex_types.specs.declared.types.messages.Proposal.{Proposal}
use Rattle.simplex_types.specs.declared.types.messages.Subject.{Subject}
use Rattle.simplex_voter.specs.Facts.{Elect}
use Rattle.simplex_voter.specs.Refusals.{is_too_large}
use Rattle.laws_safety.specs.Continuations.{ReplicasContinue, EachHonest, SomeHonest, HasAccepted, HasReceived, HonestlyBacked, ContinuesToFinalize}
use Rattle.laws_safety.specs.Replicas.{Replica, Honest, faults, max_faults, IsNetworkOf}
use Rattle.laws_safety.specs.Executions.{Execution}
use Rattle.laws_progress.specs.NetworkStates.{IsSetUpAs, EachRuns}
use Rattle.laws_progress.specs.ViewPositions.{StandsBefore, proposal_in}
use Rattle.laws_progress.specs.SharedView.{terms_on}

module _ {K L D : Type 0} (same : D → D → Bool) (elect : Elect L) where
  -- the network can, by what its honest members do alone, come to where each of them is at one view, on one parent
  pub record Meets (term_length epoch : ℕ) (elector : L) (network later : List (Replica K L D))
      (parent view start : ℕ) : Type 0 where
    pub continues : ReplicasContinue network later
    pub runs : IsNetworkOf same elect term_length later
    -- a certificate that an honest member accepts was accepted by an honest one before, or honest ones alone make it
    pub certificates : EachHonest later
        (λ i s. (c : Subject D) → HasAccepted c i s → SomeHonest network (HasAccepted c) ⊎ HonestlyBacked later c)
    -- a proposal that it receives was received by an honest one before
    pub proposals : EachHonest later
        (λ i s. (v : ℕ) (p : Proposal D) → HasReceived v p s → SomeHonest network (λ j t. HasReceived v p t))
    pub stands : EachRuns same elect later
        (λ i x. IsSetUpAs epoch (length later) elector i x × StandsBefore parent view start x)

module _ (K : Type 0) {L D : Type 0} (same : D → D → Bool) (elect : Elect L) where
  -- from there they continue together; so from the first network a view is finalized that is above all that could be
  -- before
  abbrev pub MembersThatMeetContinue : Type 0
  MembersThatMeetContinue =
      (term_length epoch leader parent view start terms : ℕ) (elector : L)
      (network between : List (Replica K L D)) (payload : D)
      → IsNetworkOf same elect term_length network
      → faults network ≤ max_faults (length network)
      → Meets same elect term_length epoch elector network between parent view start
      → start ≡ terms_on term_length (suc terms) view
      → start ≡ term_start term_length start
      → is_too_large start ≡ false
      → ((bytes : List ℕ) → elect elector (record { epoch = epoch; view = start }) (Some bytes) ≡ leader)
      → (s : Execution K L D) × (slice_get network leader ≡ Some (Honest s))
      → (later : List (Replica K L D))
      × ContinuesToFinalize same elect term_length network later (proposal_in epoch start parent payload)
