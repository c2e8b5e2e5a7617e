-- How many exchanges of messages a finalization takes.
use Rattle.std.specs.Prelude.{◌≡◌, ℕ, zero, suc, ◌+◌, ◌%◌, ◌≤◌, ◌<◌, ◌⊎◌, Bool, false, List, length, Some}
use Rattle.simplex_types.specs.Terms.{term_index}
use Rattle.simplex_types.specs.declared.types.messages.Proposal.{Proposal}
use Rattle.simplex_types.specs.declared.types.messages.Subject.{Subject}
use Rattle.simplex_voter.specs.Facts.{StateFacts, Elect, is_tracked}
use Rattle.simplex_voter.specs.Refusals.{is_too_large}
use Rattle.laws_safety.specs.Continuations.{ReplicasContinue, EachHonest, SomeHonest, HasAccepted, HasReceived, HasBuilt, HonestlyBacked, ContinuesToFinalize}
use Rattle.laws_safety.specs.Replicas.{Replica, faults, max_faults, IsNetworkOf}
use Rattle.laws_progress.specs.NotStuck.{AreConsistent, MayContinue}
use Rattle.laws_progress.specs.NetworkStates.{IsSetUpAs, RunsWith, EachRuns}
use Rattle.laws_progress.specs.ViewPositions.{proposal_in}
use Rattle.laws_progress.specs.SharedView.{terms_on}

module _ {K L D : Type 0} where
  -- one exchange of messages: what an honest member receives was accepted, passed in or built by an honest one before,
  -- or is made of votes that honest ones had signed before
  pub record IsExchange (network later : List (Replica K L D)) : Type 0 where
    pub continues : ReplicasContinue network later
    pub certificates : EachHonest later
        (λ i s. (c : Subject D) → HasAccepted c i s → SomeHonest network (HasAccepted c) ⊎ HonestlyBacked network c)
    pub proposals : EachHonest later (λ i s. (v : ℕ) (p : Proposal D) → HasReceived v p s
        → SomeHonest network (λ j t. HasReceived v p t) ⊎ SomeHonest network (HasBuilt p))

  -- this number of exchanges, one after another
  abbrev pub Exchanges : ℕ → List (Replica K L D) → List (Replica K L D) → Type 0
  Exchanges zero network later = later ≡ network
  Exchanges (suc count) network later =
      (between : List (Replica K L D)) × IsExchange network between × Exchanges count between later

module _ (K : Type 0) {L D : Type 0} (same : D → D → Bool) (elect : Elect L) where
  -- from a network with an honest member at most this number of terms before the start's, it takes one for each of
  -- these terms, and four
  abbrev pub IsFinalizedSoon : Type 0
  IsFinalizedSoon =
      (term_length epoch leader start terms : ℕ) (elector : L) (network : List (Replica K L D)) (payload : D)
      → IsNetworkOf same elect term_length network
      → MayContinue same elect term_length network epoch elector leader start
      → SomeHonest network (λ i s. (x : StateFacts K L D) → RunsWith same elect s x
      → term_index term_length start ≤ term_index term_length x.current + terms)
      → (later : List (Replica K L D)) × (parent : ℕ)
      × Exchanges (terms + 4) network later
      × ContinuesToFinalize same elect term_length network later (proposal_in epoch start parent payload)

  -- with leaders round-robin, if some terms are skipped, and no start of the f + 1 after these is known: one of them is
  -- finalized, and it takes one for each term that is skipped, and f + 5
  abbrev pub IsFinalizedInTurn : Type 0
  IsFinalizedInTurn =
      (term_length epoch view turn skipped : ℕ) (elector : L) (network : List (Replica K L D)) (payload : D)
      → IsNetworkOf same elect term_length network
      → (0 < length network)
      → (faults network ≤ max_faults (length network))
      → SomeHonest network (λ i s. (x : StateFacts K L D) → RunsWith same elect s x → view ≤ x.current)
      → EachRuns same elect network (λ i x. IsSetUpAs epoch (length network) elector i x × (x.current ≤ view)
      × ((count : ℕ) → count ≤ max_faults (length network)
      → is_tracked x (terms_on term_length (suc (skipped + count)) view) ≡ false))
      → AreConsistent same elect epoch network
      → ((v : ℕ) (bytes : List ℕ)
      → elect elector (record { epoch = epoch; view = v }) (Some bytes) ≡ (term_index term_length v + turn)
      % length network)
      → is_too_large (terms_on term_length (suc (skipped + max_faults (length network))) view) ≡ false
      → (later : List (Replica K L D)) × (parent : ℕ) × (start : ℕ)
      × Exchanges (skipped + max_faults (length network) + 5) network later
      × ContinuesToFinalize same elect term_length network later (proposal_in epoch start parent payload)
