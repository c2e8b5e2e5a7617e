-- From a network whose honest members are at one view, on one parent, they alone can come to a later term's start.
use Rattle.std.specs.Prelude.{◌≡◌, ℕ, zero, suc, ◌≤◌, Bool, false, List, length, slice_get, Some}
use Rattle.simplex_types.specs.Terms.{term_start, next_term_start}
use Rattle.simplex_voter.specs.Facts.{Elect}
use Rattle.simplex_voter.specs.Refusals.{is_too_large}
use Rattle.laws_safety.specs.Continuations.{ContinuesToFinalize}
use Rattle.laws_safety.specs.Replicas.{Replica, Honest, faults, max_faults, IsNetworkOf}
use Rattle.laws_safety.specs.Executions.{Execution}
use Rattle.laws_progress.specs.NetworkStates.{IsSetUpAs, EachRuns}
use Rattle.laws_progress.specs.ViewPositions.{StandsBefore, proposal_in}

-- this number of terms later
abbrev pub terms_on : (length count view : ℕ) → ℕ
terms_on length zero view = view
terms_on length (suc count) view = terms_on length count (next_term_start length view)

module _ (K : Type 0) {L D : Type 0} (same : D → D → Bool) (elect : Elect L) where
  -- they abandon each view up to the start of a correct leader's term, and finalize that
  abbrev pub MembersOfOneViewContinue : Type 0
  MembersOfOneViewContinue =
      (term_length epoch leader parent view start terms : ℕ) (elector : L)
      (network : List (Replica K L D)) (payload : D)
      → IsNetworkOf same elect term_length network
      → faults network ≤ max_faults (length network)
      → start ≡ terms_on term_length (suc terms) view
      → start ≡ term_start term_length start
      → is_too_large start ≡ false
      → ((bytes : List ℕ) → elect elector (record { epoch = epoch; view = start }) (Some bytes) ≡ leader)
      → (s : Execution K L D) × (slice_get network leader ≡ Some (Honest s))
      → EachRuns same elect network
      (λ i x. IsSetUpAs epoch (length network) elector i x × StandsBefore parent view start x)
      → (later : List (Replica K L D))
      × ContinuesToFinalize same elect term_length network later (proposal_in epoch start parent payload)
