-- Networks in which much happens, step by step.
use Rattle.std.specs.Prelude.{ℕ, Bool, true, false, List, [], ◌∷◌, ◌++◌, Option, Some, None}
use Rattle.simplex_types.specs.Config.{FloorFacts, Genesis, Finalized}
use Rattle.simplex_types.specs.declared.types.messages.Proposal.{Proposal}
use Rattle.simplex_types.specs.declared.types.messages.Subject.TheVariants as subject
use Rattle.simplex_voter.specs.Facts.{Elect}
use Rattle.simplex_member.specs.Calls.{Prune, ReplyFacts, Dropped, Done, Restarted}
use Rattle.simplex_member.specs.Runs.{StepFacts, Calls, Prunes, Restarts}
use Rattle.simplex_record.specs.Start.{StartFacts}
use Rattle.laws_safety.specs.Traces.{TraceEvent, Signs}
use Rattle.laws_safety.specs.Replicas.{Replica, Faulty, Honest}
use Rattle.laws_safety.specs.Executions.{Execution, trace_of}
use Rattle.laws_safety.specs.ScenarioSteps.{set_up_as, round, proposal, certificate, one, two, execution_from, hears, verifies, accepts_notarization, accepts, votes_for, may_not_finalize, accepts_finalization, votes_against, skips}

-- member 3 leads each view
abbrev pub leader : Elect ℕ
leader length round seed = 3

-- a start at a floor, at moment 0
abbrev pub start_at : ℕ → FloorFacts ℕ → ℕ → StartFacts ℕ ℕ ℕ
start_at term_length floor me = record { setup = set_up_as term_length me; floor = floor; now = 0 }

-- a member verifies a proposal and votes for it to the end
abbrev pub votes_through : ℕ → Proposal ℕ → List (StepFacts ℕ ℕ ℕ × ReplyFacts ℕ ℕ)
votes_through me p = hears p true ∷ verifies me 3 p ++ accepts p ++ votes_for me p ∷ []

-- it restarts: `drop` entries of its record are dropped, and the record is pruned or not
abbrev pub restarts : ℕ → Bool → StartFacts ℕ ℕ ℕ → StepFacts ℕ ℕ ℕ × ReplyFacts ℕ ℕ
restarts drop prune start = (Restarts (record { drop = drop; prune = prune; start = start }), Restarted)

-- a term of five views: a member votes to nullify view 1 and may finalize neither it nor the next one, until it accepts
-- the finalization of view 1
abbrev pub impatient : Execution ℕ ℕ ℕ
impatient = execution_from (start_at 5 (Genesis 0) 0) (
    votes_against 0 1
    ∷ accepts one
    ++ may_not_finalize 1
    ∷ accepts two
    ++ may_not_finalize 2
    ∷ accepts_finalization one
    ∷ votes_for 0 two
    ∷ [])

-- another one verifies both proposals and votes for each to the end
abbrev pub patient : ℕ → Execution ℕ ℕ ℕ
patient me = execution_from (start_at 5 (Genesis 0) me) (votes_through me one ++ votes_through me two)

-- a third one does the same, and restarts between the two: the finalization that came after its last vote is dropped,
-- so that it is new again, but not the vote; and its record is pruned
abbrev pub forgetful : Execution ℕ ℕ ℕ
forgetful = execution_from (start_at 5 (Genesis 0) 2) (
    votes_through 2 one
    ++ accepts_finalization one
    ∷ restarts 5 true (start_at 5 (Genesis 0) 2)
    ∷ may_not_finalize 1
    ∷ accepts_finalization one
    ∷ votes_through 2 two)

-- four members, of which the leader is faulty
abbrev pub four : List (Replica ℕ ℕ ℕ)
four = Honest impatient ∷ Honest (patient 1) ∷ Honest forgetful ∷ Faulty ∷ []

-- the same with two of four faulty: more than f = 1, and not fewer than n - 2f = 2
abbrev pub overrun : List (Replica ℕ ℕ ℕ)
overrun = Honest impatient ∷ Honest (patient 1) ∷ Faulty ∷ Faulty ∷ []

-- a member that votes to nullify view 1 and to finalize it
abbrev pub two_faced : ℕ → List (TraceEvent ℕ)
two_faced me =
    Signs me (subject.Nullify (round 1))
    ∷ Signs me (subject.Notarize one)
    ∷ Signs me (subject.Finalize one)
    ∷ Signs me (subject.Notarize two)
    ∷ Signs me (subject.Finalize two)
    ∷ []

-- what is known of these four, if this member is one of the faulty ones, and nothing is known of the other one
abbrev pub known_of_overrun : List (Option (List (TraceEvent ℕ)))
known_of_overrun = Some (trace_of impatient) ∷ Some (trace_of (patient 1)) ∷ Some (two_faced 2) ∷ None ∷ []

-- a member restarts three times: first the notarization that came after its last vote is dropped, so that it is new
-- again, but not the vote; then its record has been pruned within the lifetime, after the views that the state drops;
-- then it starts at a finalized floor
abbrev pub restarting : Execution ℕ ℕ ℕ
restarting = execution_from (start_at 5 (Genesis 0) 1) (
    accepts one
    ++ votes_for 1 one
    ∷ accepts_notarization two
    ∷ restarts 5 false (start_at 5 (Genesis 0) 1)
    ∷ may_not_finalize 1
    ∷ accepts two
    ++ votes_for 1 two
    ∷ accepts_finalization (proposal 3 2)
    ∷ (Calls Prune, Dropped (1 ∷ []))
    ∷ (Prunes, Done)
    ∷ restarts 0 false (start_at 5 (Genesis 0) 1)
    ∷ may_not_finalize 1
    ∷ may_not_finalize 2
    ∷ restarts 0 false (start_at 5 (Finalized (certificate (proposal 4 3))) 1)
    ∷ votes_against 1 5
    ∷ [])

-- terms of one view: view 3 is built on view 1, over view 2, for which there is a nullification
abbrev pub skipping : ℕ → Execution ℕ ℕ ℕ
skipping me = execution_from (start_at 1 (Genesis 0) me) (
    hears one true
    ∷ verifies me 3 one
    ++ accepts one
    ++ votes_against me 2
    ∷ skips 2
    ∷ votes_through me (proposal 3 1))

-- five members, of which two are faulty: more than f = 1, but fewer than n - 2f = 3
abbrev pub five : List (Replica ℕ ℕ ℕ)
five = Honest (skipping 0) ∷ Honest (skipping 1) ∷ Honest (skipping 2) ∷ Faulty ∷ Faulty ∷ []
