-- How the worked networks continue, which look stuck: of `Rattle.laws_safety.specs.DividedNetwork`,
-- `MissingCertificatesNetwork`, `HandoffNetwork`.
use Rattle.std.specs.Prelude.{ℕ, List, nat_eq}
use Rattle.laws_safety.specs.Continuations.{ContinuesToFinalize}
use Rattle.laws_safety.specs.Replicas.{Replica}
use Rattle.laws_safety.specs.ScenarioSteps.{in_turn}
use Rattle.laws_progress.specs.NotStuck.{MayContinue}
use Rattle.laws_progress.specs.MessageExchanges.{Exchanges}
use Rattle.laws_progress.specs.ViewPositions.{proposal_in}

-- in terms of this length, each elected for by it, member 0 is to lead this start
abbrev pub MayReach : ℕ → List (Replica ℕ ℕ ℕ) → ℕ → Type 0
MayReach term_length network start = MayContinue nat_eq in_turn term_length network 1 term_length 0 start

-- and this start is finalized, on some parent
abbrev pub Reaches : ℕ → List (Replica ℕ ℕ ℕ) → ℕ → Type 0
Reaches term_length network start =
    (later : List (Replica ℕ ℕ ℕ)) × (parent : ℕ)
    × ContinuesToFinalize nat_eq in_turn term_length network later (proposal_in 1 start parent 7)

-- within this number of exchanges of messages a start is finalized, on some parent
abbrev pub ReachesWithin : ℕ → ℕ → List (Replica ℕ ℕ ℕ) → Type 0
ReachesWithin count term_length network =
    (later : List (Replica ℕ ℕ ℕ)) × (parent : ℕ) × (start : ℕ)
    × Exchanges count network later
    × ContinuesToFinalize nat_eq in_turn term_length network later (proposal_in 1 start parent 7)
