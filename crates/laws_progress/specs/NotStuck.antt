-- From each network the honest members alone can finalize a new view.
use Rattle.std.specs.Prelude.{◌≡◌, ℕ, ◌≤◌, ◌<◌, Bool, false, List, length, slice_get, Some}
use Rattle.simplex_types.specs.Terms.{term_start}
use Rattle.simplex_round.specs.Round.{is_judged}
use Rattle.simplex_voter.specs.Facts.{StateFacts, Elect, round_of, is_tracked}
use Rattle.simplex_voter.specs.Refusals.{is_too_large}
use Rattle.laws_safety.specs.Continuations.{EachHonest, ContinuesToFinalize}
use Rattle.laws_safety.specs.Replicas.{Replica, Honest, faults, max_faults, IsNetworkOf}
use Rattle.laws_safety.specs.Executions.{Execution}
use Rattle.laws_progress.specs.NetworkStates.{IsSetUpAs, RunsWith, EachRuns}
use Rattle.laws_progress.specs.CommonViews.{Meets}
use Rattle.laws_progress.specs.ViewCauses.{HasCertified, judged_of}
use Rattle.laws_progress.specs.ViewPositions.{proposal_in}

module _ {K L D : Type 0} (same : D → D → Bool) (elect : Elect L) where
  -- if an honest member's application found a view valid, no other's has found it invalid, above what that one
  -- finalized
  abbrev pub AreConsistent : ℕ → List (Replica K L D) → Type 0
  AreConsistent epoch network =
      EachHonest network (λ i s. EachHonest network (λ j t.
      (x : StateFacts K L D) (v : ℕ) → HasCertified epoch (judged_of s) v → RunsWith same elect t x
      → x.finalized < v → is_judged false (round_of x v).certification ≡ false))

  -- the premises on a network, and on a term start that is to be finalized
  pub record MayContinue (term_length : ℕ) (network : List (Replica K L D)) (epoch : ℕ) (elector : L)
      (leader start : ℕ) : Type 0 where
    pub few_faulty : faults network ≤ max_faults (length network)
    -- each honest member has not failed, signs as itself, shares the epoch and the elector, is below the start, and
    -- knows nothing of it
    pub alive : EachRuns same elect network
        (λ i x. IsSetUpAs epoch (length network) elector i x × (is_tracked x start ≡ false) × (x.current < start))
    pub consistent : AreConsistent epoch network
    -- the start begins a term, and lies below 2^63
    pub is_term_start : start ≡ term_start term_length start
    pub small : is_too_large start ≡ false
    -- whatever certificate leads to it, an honest member is elected for it
    pub elected : (bytes : List ℕ) → elect elector (record { epoch = epoch; view = start }) (Some bytes) ≡ leader
    pub honest_leader : (s : Execution K L D) × (slice_get network leader ≡ Some (Honest s))

module _ (K : Type 0) {L D : Type 0} (same : D → D → Bool) (elect : Elect L) where
  -- all honest members can come to one view below the start, on one parent
  abbrev pub NetworksMeet : Type 0
  NetworksMeet =
      (term_length epoch leader start : ℕ) (elector : L) (network : List (Replica K L D))
      → IsNetworkOf same elect term_length network
      → MayContinue same elect term_length network epoch elector leader start
      → (later : List (Replica K L D)) × (parent : ℕ) × (view : ℕ) × (view < start)
      × Meets same elect term_length epoch elector network later parent view start

  -- the theorem: whatever the leader builds is finalized
  abbrev pub NoNetworkIsStuck : Type 0
  NoNetworkIsStuck =
      (term_length epoch leader start : ℕ) (elector : L) (network : List (Replica K L D)) (payload : D)
      → IsNetworkOf same elect term_length network
      → MayContinue same elect term_length network epoch elector leader start
      → (later : List (Replica K L D)) × (parent : ℕ)
      × ContinuesToFinalize same elect term_length network later (proposal_in epoch start parent payload)
