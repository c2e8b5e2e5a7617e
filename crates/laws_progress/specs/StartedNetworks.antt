-- Networks of four members in terms of one view, one of which is faulty, where the others have just started.
use Rattle.std.specs.Prelude.{ℕ, List, [], ◌∷◌, nat_eq}
use Rattle.simplex_voter.specs.Facts.{StateFacts}
use Rattle.laws_safety.specs.Continuations.{ContinuesToFinalize}
use Rattle.laws_safety.specs.Replicas.{Replica, Faulty, Honest}
use Rattle.laws_safety.specs.Executions.{Execution}
use Rattle.laws_safety.specs.ScenarioSteps.{in_turn, begins_with}
use Rattle.laws_progress.specs.NetworkStates.{IsSetUpAs}
use Rattle.laws_progress.specs.ViewPositions.{IsFreshStart, CanStandOn, StandsBefore, proposal_in}

-- a member that did nothing yet
abbrev pub idle : ℕ → Execution ℕ ℕ ℕ
idle me = begins_with 1 me []

-- the leader of view 1 is honest
abbrev pub with_first_leader : List (Replica ℕ ℕ ℕ)
with_first_leader = Faulty ∷ Honest (idle 1) ∷ Honest (idle 2) ∷ Honest (idle 3) ∷ []

-- only that of view 2 is
abbrev pub with_second_leader : List (Replica ℕ ℕ ℕ)
with_second_leader = Honest (idle 0) ∷ Honest (idle 1) ∷ Honest (idle 2) ∷ Faulty ∷ []

-- what each knows: it is at view 1, which nobody touched, on genesis
abbrev pub StandsFirst : ℕ → StateFacts ℕ ℕ ℕ → Type 0
StandsFirst i x = IsSetUpAs 1 4 1 i x × IsFreshStart 3 1 x × CanStandOn 0 1 x

-- what each knows: it is at view 1 on genesis, and knows nothing of view 2
abbrev pub StandsBeforeSecond : ℕ → StateFacts ℕ ℕ ℕ → Type 0
StandsBeforeSecond i x = IsSetUpAs 1 4 1 i x × StandsBefore 0 1 2 x

-- the network can finalize this view, on genesis
abbrev pub Finalizes : List (Replica ℕ ℕ ℕ) → ℕ → Type 0
Finalizes network view =
    (later : List (Replica ℕ ℕ ℕ)) × ContinuesToFinalize nat_eq in_turn 1 network later (proposal_in 1 view 0 7)
