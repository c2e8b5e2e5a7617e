-- A network of four in which a leader takes its term over early, on a view that is then nullified.
use Rattle.std.specs.Prelude.{ℕ, true, List, [], ◌∷◌, ◌++◌, Some}
use Rattle.simplex_types.specs.declared.reasons.Kind.TheVariants.{Notarization}
use Rattle.simplex_types.specs.declared.reasons.TimeoutReason.TheVariants.{LeaderTimeout, CertificationTimeout}
use Rattle.simplex_types.specs.declared.types.messages.Proposal.{Proposal}
use Rattle.simplex_voter.specs.declared.voter.propose.ProposalRequest.TheVariants.{Prepare}
use Rattle.simplex_voter.specs.declared.voter.verify.Verify.TheVariants.{Resolve}
use Rattle.simplex_member.specs.Calls.{TryPropose, Proposed, ConstructNotarize, TryVerify, ReplyFacts, Requested, Answered, Standing}
use Rattle.simplex_member.specs.Runs.{StepFacts, Calls}
use Rattle.laws_safety.specs.Continuations.{and_then}
use Rattle.laws_safety.specs.Replicas.{Replica, Faulty, Honest}
use Rattle.laws_safety.specs.ScenarioSteps.{proposal, notarize_reply, two, begins_with, first_view, context_of, builds, hears, verifies, certifies, finalizes, abandons, skips}
use Rattle.laws_safety.specs.Executions.{Execution}

-- view 3, which starts a term, is built on view 2 before that is certified
abbrev pub handed_over : Proposal ℕ
handed_over = proposal 3 2

-- only member 0 receives the proposal of view 2, votes for it and for its own one on it, and has no vote left in view 3
-- when view 2 is nullified
abbrev pub takes_over : Execution ℕ ℕ ℕ
takes_over = begins_with 2 0 (
    first_view 0
    ++ hears two true
    ∷ verifies 0 3 two
    ++ (Calls TryPropose, Requested (Some (Prepare (context_of 0 handed_over))))
    ∷ (Calls (Proposed 3 3 0), Answered true)
    ∷ (Calls (ConstructNotarize 3), notarize_reply 0 handed_over)
    ∷ abandons 0 2 2000 CertificationTimeout
    ++ skips 2
    ∷ [])

-- the others can't verify that one, since view 2 has no notarization
abbrev pub can_not_verify : ℕ → Execution ℕ ℕ ℕ
can_not_verify me = begins_with 2 me (
    first_view me
    ++ abandons me 2 1000 LeaderTimeout
    ++ skips 2
    ∷ hears handed_over true
    ∷ (Calls TryVerify, Standing (Resolve 3 2 Notarization 0))
    ∷ [])

-- four members, of which the first leader is faulty
abbrev pub taken_over : List (Replica ℕ ℕ ℕ)
taken_over = Honest takes_over ∷ Honest (can_not_verify 1) ∷ Honest (can_not_verify 2) ∷ Faulty ∷ []

-- the rest of the term is nullified; member 1 leads the next term, and builds on view 1
abbrev pub after_handoff : Proposal ℕ
after_handoff = proposal 5 1

-- the current view 3 times out and is nullified, and so is the rest of its term
abbrev pub leaves_term : ℕ → List (StepFacts ℕ ℕ ℕ × ReplyFacts ℕ ℕ)
leaves_term me = abandons me 3 2000 CertificationTimeout ++ skips 3 ∷ []

-- the leader of view 5 builds, and votes for it to the end
abbrev pub leads_past_handoff : ℕ → List (StepFacts ℕ ℕ ℕ × ReplyFacts ℕ ℕ)
leads_past_handoff me = leaves_term me ++ builds me after_handoff ++ certifies after_handoff
    ++ finalizes me after_handoff

-- another member verifies, and does the same
abbrev pub follows_past_handoff : ℕ → List (StepFacts ℕ ℕ ℕ × ReplyFacts ℕ ℕ)
follows_past_handoff me = leaves_term me ++ hears after_handoff true ∷ verifies me 1 after_handoff
    ++ certifies after_handoff ++ finalizes me after_handoff

-- all three finalize view 5
abbrev pub gone_on : List (Replica ℕ ℕ ℕ)
gone_on =
    Honest (and_then takes_over (follows_past_handoff 0))
    ∷ Honest (and_then (can_not_verify 1) (leads_past_handoff 1))
    ∷ Honest (and_then (can_not_verify 2) (follows_past_handoff 2))
    ∷ Faulty
    ∷ []
