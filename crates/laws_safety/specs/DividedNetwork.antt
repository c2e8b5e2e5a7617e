-- A network of four whose first leader proposes twice: no proposal gets enough votes, and each honest member restarts
-- with a pruned record.
use Rattle.std.specs.Prelude.{ℕ, true, false, List, [], ◌∷◌, ◌++◌, None}
use Rattle.simplex_types.specs.declared.reasons.TimeoutReason.{TimeoutReason}
use Rattle.simplex_types.specs.declared.reasons.TimeoutReason.TheVariants.{LeaderTimeout, CertificationTimeout}
use Rattle.simplex_types.specs.declared.types.messages.Proposal.{Proposal}
use Rattle.simplex_voter.specs.declared.voter.verify.Verify.TheVariants.{Ready}
use Rattle.simplex_member.specs.Calls.{TryVerify, Verified, ConstructNotarize, ReplyFacts, Notarize, Standing, Answered, Restarted}
use Rattle.simplex_member.specs.Runs.{StepFacts, Calls, Restarts}
use Rattle.laws_safety.specs.Continuations.{and_then}
use Rattle.laws_safety.specs.Replicas.{Replica, Faulty, Honest}
use Rattle.laws_safety.specs.ScenarioSteps.{round, proposal, one, begin_at, begins_with, context_of, builds, hears, verifies, certifies, finalizes, abandons, skips}
use Rattle.laws_safety.specs.Executions.{Execution}

-- the leader's other proposal of view 1
abbrev pub rival : Proposal ℕ
rival = record { round = round 1; parent = 0; payload = 9 }

-- a restart that drops what it may and prunes the record
abbrev pub restarts_pruned : ℕ → StepFacts ℕ ℕ ℕ × ReplyFacts ℕ ℕ
restarts_pruned me = (Restarts (record { drop = 3; prune = true; start = begin_at 1 me }), Restarted)

-- a member votes for the proposal that it receives first, and restarts with a pruned record after the other one
abbrev pub deceived : ℕ → Proposal ℕ → Proposal ℕ → Execution ℕ ℕ ℕ
deceived me p other = begins_with 1 me (hears p true ∷ verifies me 3 p ++ hears other false ∷ restarts_pruned me ∷ [])

-- another one receives both, so it votes for none, and restarts with a pruned record
abbrev pub warned : ℕ → Execution ℕ ℕ ℕ
warned me = begins_with 1 me (
    hears one true
    ∷ hears rival false
    ∷ (Calls TryVerify, Standing (Ready (context_of 3 one) one))
    ∷ (Calls (Verified 1), Answered false)
    ∷ (Calls (ConstructNotarize 1), Notarize None)
    ∷ restarts_pruned me
    ∷ [])

-- four members, of which the leader is faulty: each of its proposals has one vote of an honest member
abbrev pub divided : List (Replica ℕ ℕ ℕ)
divided = Honest (deceived 0 one rival) ∷ Honest (deceived 1 rival one) ∷ Honest (warned 2) ∷ Faulty ∷ []

-- view 1 times out and is nullified; member 0 leads the next one, and builds on genesis
abbrev pub after_conflict : Proposal ℕ
after_conflict = proposal 2 0

-- the leader of view 2 votes to nullify view 1, by its deadline and reason, and builds; it votes for view 2 to the end
abbrev pub leads_past_conflict : ℕ → ℕ → TimeoutReason → List (StepFacts ℕ ℕ ℕ × ReplyFacts ℕ ℕ)
leads_past_conflict me at why = abandons me 1 at why ++ skips 1 ∷ builds me after_conflict ++ certifies after_conflict
    ++ finalizes me after_conflict

-- another member does the same, and verifies
abbrev pub follows_past_conflict : ℕ → ℕ → TimeoutReason → List (StepFacts ℕ ℕ ℕ × ReplyFacts ℕ ℕ)
follows_past_conflict me at why =
    abandons me 1 at why
    ++ skips 1
    ∷ hears after_conflict true
    ∷ verifies me 0 after_conflict
    ++ certifies after_conflict
    ++ finalizes me after_conflict

-- all three finalize view 2
abbrev pub united : List (Replica ℕ ℕ ℕ)
united =
    Honest (and_then (deceived 0 one rival) (leads_past_conflict 0 2000 CertificationTimeout))
    ∷ Honest (and_then (deceived 1 rival one) (follows_past_conflict 1 2000 CertificationTimeout))
    ∷ Honest (and_then (warned 2) (follows_past_conflict 2 1000 LeaderTimeout))
    ∷ Faulty
    ∷ []
