-- A start that nobody touched is finalized.
use Rattle.std.specs.Prelude.{◌≡◌, ℕ, ◌≤◌, Bool, false, List, length, slice_get, Some}
use Rattle.simplex_voter.specs.Facts.{StateFacts, Elect}
use Rattle.simplex_voter.specs.Refusals.{is_too_large}
use Rattle.laws_safety.specs.Continuations.{ContinuesToFinalize}
use Rattle.laws_safety.specs.Replicas.{Replica, Honest, faults, max_faults, IsNetworkOf}
use Rattle.laws_safety.specs.Executions.{Execution}
use Rattle.laws_progress.specs.NetworkStates.{IsSetUpAs, RunsWith, EachRuns}
use Rattle.laws_progress.specs.ViewPositions.{IsFreshStart, CanStandOn, BuildsOn, proposal_in}

module _ (K : Type 0) {L D : Type 0} (same : D → D → Bool) (elect : Elect L) where
  -- if each honest member is at it on one parent, the honest ones alone can finalize what its leader builds
  abbrev pub FreshStartsAreFinalized : Type 0
  FreshStartsAreFinalized =
      (term_length epoch leader parent start : ℕ) (elector : L) (network : List (Replica K L D)) (payload : D)
      → IsNetworkOf same elect term_length network
      → faults network ≤ max_faults (length network)
      → is_too_large start ≡ false
      → (s : Execution K L D) × (slice_get network leader ≡ Some (Honest s))
      → EachRuns same elect network
      (λ i x. IsSetUpAs epoch (length network) elector i x × IsFreshStart leader start x × CanStandOn parent start x)
      → ((s : Execution K L D) → slice_get network leader ≡ Some (Honest s) → (x : StateFacts K L D)
      → RunsWith same elect s x → BuildsOn parent start x)
      → (later : List (Replica K L D))
      × ContinuesToFinalize same elect term_length network later (proposal_in epoch start parent payload)
