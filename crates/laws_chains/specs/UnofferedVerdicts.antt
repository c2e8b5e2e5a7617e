-- A network of four in one term whose leader is faulty and proposes three times in view 1, to each member another
-- proposal. Each votes for it and for view 2 on its payload. View 2 is notarized, and each member takes the verdict
-- that it is good; none offered it.
use Rattle.std.specs.Prelude.{◌≡◌, ℕ, ◌+◌, true, List, [], ◌∷◌, ◌++◌, None}
use Rattle.simplex_types.specs.declared.types.messages.Proposal.{Proposal}
use Rattle.simplex_types.specs.declared.types.messages.Subject.TheVariants as subject
use Rattle.simplex_voter.specs.declared.voter.verify.Verify.TheVariants.{Ready}
use Rattle.simplex_record.specs.Start.{StartFacts}
use Rattle.simplex_member.specs.Calls.{TryVerify, Verified, ConstructNotarize, ReplyFacts, Standing, Answered}
use Rattle.simplex_member.specs.Runs.{StepFacts, Calls}
use Rattle.laws_safety.specs.AheadNetwork.{three}
use Rattle.laws_safety.specs.Executions.{Execution}
use Rattle.laws_safety.specs.Replicas.{Replica, Faulty, Honest, Backed}
use Rattle.laws_safety.specs.ScenarioSteps.{round, two, begin_at, execution_from, notarize_reply, hears, verifies, accepts, votes_for}
use Rattle.laws_chains.specs.Chains.{ReachesGenesis}

-- terms of three views, one of which is voted for ahead
abbrev pub long_start : ℕ → StartFacts ℕ ℕ ℕ
long_start me = record (begin_at 3 me) {
  setup = record (begin_at 3 me).setup {
    terms = record { term_length = 3; optimistic_views = 1; stall_timeout = None };
  };
}

-- the proposal of view 1 that a member receives
abbrev pub first_of : ℕ → Proposal ℕ
first_of me = record { round = round 1; parent = 0; payload = 11 + me }

-- it verifies view 2 on the payload that it voted for in view 1, and votes for it
abbrev pub verifies_two : ℕ → List (StepFacts ℕ ℕ ℕ × ReplyFacts ℕ ℕ)
verifies_two me =
    (Calls TryVerify, Standing (Ready (record { round = round 2; leader = 3; parent = (1, 11 + me) }) two))
    ∷ (Calls (Verified 2), Answered true)
    ∷ (Calls (ConstructNotarize 2), notarize_reply me two)
    ∷ []

-- then it takes the verdicts on views 2 and 3, and votes to finalize view 3
abbrev pub unoffering : ℕ → Execution ℕ ℕ ℕ
unoffering me = execution_from (long_start me) (
    hears (first_of me) true
    ∷ verifies me 3 (first_of me)
    ++ hears two true
    ∷ verifies_two me
    ++ accepts two
    ++ hears three true
    ∷ verifies me 3 three
    ++ accepts three
    ++ votes_for me three
    ∷ [])

-- four members, of which the leader is faulty
abbrev pub unoffered : List (Replica ℕ ℕ ℕ)
unoffered = Honest (unoffering 0) ∷ Honest (unoffering 1) ∷ Honest (unoffering 2) ∷ Faulty ∷ []

-- no proposal of view 1 is notarized
abbrev pub NoFirstNotarized : Type 0
NoFirstNotarized = (q : Proposal ℕ) → q.round.view ≡ 1 → Backed unoffered (subject.Notarize q) → ⊥

-- so no chain leads from view 3 to genesis
abbrev pub ReachesNoGenesis : Type 0
ReachesNoGenesis = ReachesGenesis unoffered three → ⊥
