-- Networks of four in which two are faulty and certificates contradict: of two proposals of one view, and of a
-- finalized view that a later proposal skips.
use Rattle.std.specs.Prelude.{ℕ, true, List, [], ◌∷◌, ◌++◌, Option, Some, None}
use Rattle.simplex_types.specs.Config.{Genesis}
use Rattle.simplex_types.specs.declared.types.messages.Proposal.{Proposal}
use Rattle.simplex_types.specs.declared.types.messages.Subject.TheVariants as subject
use Rattle.laws_safety.specs.Traces.{TraceEvent, Signs}
use Rattle.laws_safety.specs.DividedNetwork.{rival}
use Rattle.laws_safety.specs.Replicas.{Replica, Faulty, Honest}
use Rattle.laws_safety.specs.Scripts.{start_at, skipping}
use Rattle.laws_safety.specs.Executions.{Execution, trace_of}
use Rattle.laws_safety.specs.ScenarioSteps.{round, proposal, one, two, execution_from, hears, verifies, accepts, votes_for, skips}

-- a member receives one proposal of view 1, votes for it and certifies it
abbrev pub voting_for : Proposal ℕ → ℕ → Execution ℕ ℕ ℕ
voting_for p me = execution_from (start_at 5 (Genesis 0) me) (hears p true ∷ verifies me 3 p ++ accepts p)

-- each of two honest members receives another proposal
abbrev pub two_proposals : List (Replica ℕ ℕ ℕ)
two_proposals = Honest (voting_for one 0) ∷ Honest (voting_for rival 1) ∷ Faulty ∷ Faulty ∷ []

-- a member that votes for both
abbrev pub double : ℕ → List (TraceEvent ℕ)
double me = Signs me (subject.Notarize one) ∷ Signs me (subject.Notarize rival) ∷ []

-- what is known of these four: nothing of the last one
abbrev pub known_of_two_proposals : List (Option (List (TraceEvent ℕ)))
known_of_two_proposals =
    Some (trace_of (voting_for one 0)) ∷ Some (trace_of (voting_for rival 1)) ∷ Some (double 2) ∷ None ∷ []

-- view 3 is built on view 1
abbrev pub past_two : Proposal ℕ
past_two = proposal 3 1

-- terms of one view: a member votes to finalize view 2, receives its nullification, and votes for view 3, which skips
-- it
abbrev pub misled : Execution ℕ ℕ ℕ
misled = execution_from (start_at 1 (Genesis 0) 0) (
    hears one true
    ∷ verifies 0 3 one
    ++ accepts one
    ++ hears two true
    ∷ verifies 0 3 two
    ++ accepts two
    ++ votes_for 0 two
    ∷ skips 2
    ∷ hears past_two true
    ∷ verifies 0 3 past_two)

-- another one votes to nullify view 2
abbrev pub skipped_over : List (Replica ℕ ℕ ℕ)
skipped_over = Honest misled ∷ Honest (skipping 1) ∷ Faulty ∷ Faulty ∷ []

-- a member that signs all these votes
abbrev pub turncoat : ℕ → List (TraceEvent ℕ)
turncoat me =
    Signs me (subject.Notarize one)
    ∷ Signs me (subject.Notarize two)
    ∷ Signs me (subject.Finalize two)
    ∷ Signs me (subject.Nullify (round 2))
    ∷ Signs me (subject.Notarize past_two)
    ∷ []

-- what is known of these four
abbrev pub known_of_skipped : List (Option (List (TraceEvent ℕ)))
known_of_skipped = Some (trace_of misled) ∷ Some (trace_of (skipping 1)) ∷ Some (turncoat 2) ∷ None ∷ []
