-- A network of four in one term whose leader is faulty and proposes twice in view 1. One member votes for view 2 on the
-- one proposal's payload, and the others on the other one's, which is certified. All of them finalize view 2.
use Rattle.std.specs.Prelude.{◌≡◌, ℕ, true, List, [], ◌∷◌, ◌++◌, Contains, Some}
use Rattle.simplex_types.specs.declared.types.messages.Context.{Context}
use Rattle.simplex_types.specs.declared.types.messages.Proposal.{Proposal}
use Rattle.simplex_types.specs.declared.types.messages.Subject.TheVariants as subject
use Rattle.simplex_voter.specs.declared.voter.verify.Verify.TheVariants.{Ready}
use Rattle.simplex_member.specs.Calls.{AddNotarization, CertifyCandidates, Certified, TryVerify, Verified, ConstructNotarize, ReplyFacts, Added, Candidates, Judged, Standing, Answered}
use Rattle.simplex_member.specs.Runs.{StepFacts, Calls}
use Rattle.laws_safety.specs.Executions.{Execution, trace_of}
use Rattle.laws_safety.specs.Replicas.{Replica, Faulty, Honest, Backed}
use Rattle.laws_safety.specs.ScenarioSteps.{two, certificate, execution_from, notarize_reply, hears, verifies, certifies, votes_for}
use Rattle.laws_safety.specs.Traces.{Signs}
use Rattle.laws_chains.specs.UnofferedVerdicts.{long_start, first_of}

-- what a member is asked to verify of view 2, by the payload of its parent
abbrev pub asked_on : ℕ → Context ℕ ℕ
asked_on payload = record { round = two.round; leader = 3; parent = (1, payload) }

-- it verifies view 2 on that, and votes for it
abbrev pub verifies_on : ℕ → ℕ → List (StepFacts ℕ ℕ ℕ × ReplyFacts ℕ ℕ)
verifies_on payload me =
    (Calls TryVerify, Standing (Ready (asked_on payload) two))
    ∷ (Calls (Verified 2), Answered true)
    ∷ (Calls (ConstructNotarize 2), notarize_reply me two)
    ∷ []

-- it receives the notarization of another proposal than its own, and learns of the leader's fault
abbrev pub certifies_other : Proposal ℕ → List (StepFacts ℕ ℕ ℕ × ReplyFacts ℕ ℕ)
certifies_other p =
    (Calls (AddNotarization (certificate p)), Added true (Some 3))
    ∷ (Calls CertifyCandidates, Candidates (p ∷ []) [])
    ∷ (Calls (Certified p.round.view true 0), Judged true (Some (certificate p)))
    ∷ []

-- the member that voted for the proposal that is not certified: it receives proposals (`hears`), verifies and certifies
-- them, and votes
abbrev pub misled : Execution ℕ ℕ ℕ
misled = execution_from (long_start 0) (
    hears (first_of 0) true
    ∷ verifies 0 3 (first_of 0)
    ++ hears two true
    ∷ verifies_on 11 0
    ++ certifies_other (first_of 1)
    ++ certifies two
    ++ votes_for 0 two
    ∷ [])

-- a member that voted for the proposal that is certified, as the leader led the others to
abbrev pub led : ℕ → Execution ℕ ℕ ℕ
led me = execution_from (long_start me) (
    hears (first_of 1) true
    ∷ verifies me 3 (first_of 1)
    ++ hears two true
    ∷ verifies_on 12 me
    ++ certifies (first_of 1)
    ++ certifies two
    ++ votes_for me two
    ∷ [])

-- four members, of which the leader is faulty
abbrev pub verified_apart : List (Replica ℕ ℕ ℕ)
verified_apart = Honest misled ∷ Honest (led 1) ∷ Honest (led 2) ∷ Faulty ∷ []

-- the parent of view 2 has payload 12
abbrev pub ParentIsTwelve : Type 0
ParentIsTwelve = (q : Proposal ℕ) → q.round.view ≡ two.parent
    → Backed verified_apart (subject.Notarize q) → q.payload ≡ 12

-- a member that finalizes view 2 verified it on payload 11 alone
abbrev pub VerifiedOnEleven : Type 0
VerifiedOnEleven =
    Contains (trace_of misled) (Signs 0 (subject.Notarize two))
    × Contains (trace_of misled) (Signs 0 (subject.Finalize two))
    × Contains misled.replies (Standing (Ready (asked_on 11) two))
    × ((payload : ℕ) → Contains misled.replies (Standing (Ready (asked_on payload) two)) → payload ≡ 11)
