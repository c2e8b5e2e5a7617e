-- A network with one faulty member too many: all other premises of `NoNetworkIsStuck` are true, and it is stuck.
use Rattle.std.specs.Prelude.{◌≡◌, ℕ, ◌<◌, false, List, [], ◌∷◌, length, slice_get, Some, nat_eq}
use Rattle.simplex_types.specs.Terms.{term_start}
use Rattle.simplex_types.specs.declared.types.messages.Proposal.{Proposal}
use Rattle.simplex_voter.specs.Facts.{is_tracked}
use Rattle.simplex_voter.specs.Refusals.{is_too_large}
use Rattle.laws_safety.specs.Continuations.{ContinuesToFinalize}
use Rattle.laws_safety.specs.Replicas.{Replica, Faulty, Honest}
use Rattle.laws_safety.specs.Executions.{Execution}
use Rattle.laws_safety.specs.ScenarioSteps.{in_turn, begin_at, execution_from}
use Rattle.laws_progress.specs.NotStuck.{AreConsistent}
use Rattle.laws_progress.specs.NetworkStates.{IsSetUpAs, EachRuns}

-- a member of five, in terms of one view, that did nothing yet
abbrev pub idle_of_five : ℕ → Execution ℕ ℕ ℕ
idle_of_five me = execution_from
    (record (begin_at 1 me) { setup = record (begin_at 1 me).setup { members = 0 ∷ 1 ∷ 2 ∷ 3 ∷ 4 ∷ [] } }) []

-- two of the five are faulty: more than f = 1, but fewer than n - 2f = 3
abbrev pub with_two_faulty : List (Replica ℕ ℕ ℕ)
with_two_faulty = Faulty ∷ Faulty ∷ Honest (idle_of_five 2) ∷ Honest (idle_of_five 3) ∷ Honest (idle_of_five 4) ∷ []

-- all premises on it, if view 4 is to be finalized, except that at most f are faulty
abbrev pub MayContinueOtherwise : Type 0
MayContinueOtherwise =
    EachRuns nat_eq in_turn with_two_faulty
    (λ i x. IsSetUpAs 1 (length with_two_faulty) 1 i x × (is_tracked x 4 ≡ false) × (x.current < 4))
    × AreConsistent nat_eq in_turn 1 with_two_faulty
    × (4 ≡ term_start 1 4)
    × (is_too_large 4 ≡ false)
    × ((bytes : List ℕ) → in_turn 1 (record { epoch = 1; view = 4 }) (Some bytes) ≡ 2)
    × (s : Execution ℕ ℕ ℕ) × (slice_get with_two_faulty 2 ≡ Some (Honest s))

-- it can finalize nothing
abbrev pub IsStuck : Type 0
IsStuck = (later : List (Replica ℕ ℕ ℕ)) (final : Proposal ℕ)
    → ContinuesToFinalize nat_eq in_turn 1 with_two_faulty later final → ⊥
