-- A network of four in terms of two views, of which one is voted for ahead, and whose next leader takes over early; one
-- member starts late, at a finalized floor.
use Rattle.std.specs.Prelude.{ℕ, true, List, [], ◌∷◌, ◌++◌, Some, None}
use Rattle.simplex_types.specs.Config.{Finalized}
use Rattle.simplex_types.specs.declared.types.messages.Proposal.{Proposal}
use Rattle.simplex_voter.specs.declared.voter.propose.ProposalRequest.TheVariants.{Prepare}
use Rattle.simplex_record.specs.Start.{StartFacts}
use Rattle.simplex_member.specs.Calls.{TryPropose, Proposed, ConstructNotarize, ReplyFacts, Requested, Answered}
use Rattle.simplex_member.specs.Runs.{StepFacts, Calls}
use Rattle.laws_safety.specs.Replicas.{Replica, Faulty, Honest}
use Rattle.laws_safety.specs.Executions.{Execution}
use Rattle.laws_safety.specs.ScenarioSteps.{proposal, certificate, notarize_reply, one, two, begin_at, execution_from, context_of, hears, verifies, certifies, votes_for, finalizes}

-- a start at genesis, with one view ahead that is voted for
abbrev pub ahead_start : ℕ → StartFacts ℕ ℕ ℕ
ahead_start me = record (begin_at 2 me) {
  setup = record (begin_at 2 me).setup {
    terms = record { term_length = 2; optimistic_views = 1; stall_timeout = None };
  };
}

-- view 3 starts the next term, on view 2
abbrev pub three : Proposal ℕ
three = proposal 3 2

-- it votes for views 1 and 2 before it receives any certificate; then view 1 is certified, and it votes to finalize it
abbrev pub votes_ahead : ℕ → List (StepFacts ℕ ℕ ℕ × ReplyFacts ℕ ℕ)
votes_ahead me =
    hears one true ∷ verifies me 3 one ++ hears two true ∷ verifies me 3 two ++ certifies one ++ votes_for me one ∷ []

-- before view 2 is certified the leader of view 3 builds on it, and votes for its own proposal
abbrev pub takes_over_early : List (StepFacts ℕ ℕ ℕ × ReplyFacts ℕ ℕ)
takes_over_early =
    (Calls TryPropose, Requested (Some (Prepare (context_of 0 three))))
    ∷ (Calls (Proposed 3 3 0), Answered true)
    ∷ (Calls (ConstructNotarize 3), notarize_reply 0 three)
    ∷ []

-- view 2 is certified, and it votes to finalize it
abbrev pub ends_term : ℕ → List (StepFacts ℕ ℕ ℕ × ReplyFacts ℕ ℕ)
ends_term me = certifies two ++ votes_for me two ∷ []

-- the next leader
abbrev pub early : Execution ℕ ℕ ℕ
early = execution_from (ahead_start 0)
    (votes_ahead 0 ++ takes_over_early ++ ends_term 0 ++ certifies three ++ finalizes 0 three)

-- another member verifies the early proposal once view 2 is certified
abbrev pub following_early : Execution ℕ ℕ ℕ
following_early = execution_from (ahead_start 1)
    (votes_ahead 1 ++ ends_term 1 ++ hears three true ∷ verifies 1 0 three ++ certifies three ++ finalizes 1 three)

-- a third one starts late, at the finalization of view 2
abbrev pub joining : Execution ℕ ℕ ℕ
joining = execution_from (record (ahead_start 2) { floor = Finalized (certificate two) }) (
    hears three true ∷ verifies 2 0 three ++ certifies three ++ finalizes 2 three)

-- four members, of which the first leader is faulty
abbrev pub voted_ahead : List (Replica ℕ ℕ ℕ)
voted_ahead = Honest early ∷ Honest following_early ∷ Honest joining ∷ Faulty ∷ []
