-- A network of four in which a proposal skips a view, and two of those that must verify it lack a certificate for that.
use Rattle.std.specs.Prelude.{ℕ, true, List, [], ◌∷◌, ◌++◌, None}
use Rattle.simplex_types.specs.declared.reasons.Kind.TheVariants.{Nullification, Notarization}
use Rattle.simplex_types.specs.declared.reasons.TimeoutReason.TheVariants.{CertificationTimeout}
use Rattle.simplex_types.specs.declared.types.messages.Proposal.{Proposal}
use Rattle.simplex_voter.specs.declared.voter.verify.Verify.TheVariants.{Resolve}
use Rattle.simplex_member.specs.Calls.{AddNotarization, CertifyCandidates, TryVerify, ReplyFacts, Added, Candidates, Standing}
use Rattle.simplex_member.specs.Runs.{StepFacts, Calls}
use Rattle.laws_safety.specs.Continuations.{and_then}
use Rattle.laws_safety.specs.Replicas.{Replica, Faulty, Honest}
use Rattle.laws_safety.specs.ScenarioSteps.{proposal, certificate, one, two, begins_with, first_view, builds, hears, verifies, certifies, finalizes, abandons, skips}
use Rattle.laws_safety.specs.Executions.{Execution}

-- view 3 is built on view 1
abbrev pub over_two : Proposal ℕ
over_two = proposal 3 1

-- the second one is notarized; no verdict comes, and it times out
abbrev pub second_view : ℕ → List (StepFacts ℕ ℕ ℕ × ReplyFacts ℕ ℕ)
second_view me =
    (Calls (AddNotarization (certificate two)), Added true None)
    ∷ (Calls CertifyCandidates, Candidates (two ∷ []) [])
    ∷ abandons me 2 2000 CertificationTimeout

-- member 0 leads view 2, and lacks the nullification of it when it must verify the next proposal
abbrev pub lacks_nullification : Execution ℕ ℕ ℕ
lacks_nullification = begins_with 1 0 (
    first_view 0
    ++ builds 0 two
    ++ second_view 0
    ++ hears over_two true
    ∷ (Calls TryVerify, Standing (Resolve 3 2 Nullification 1))
    ∷ [])

-- member 1 leads view 3, has the nullification of view 2, and builds on view 1
abbrev pub skips_two : Execution ℕ ℕ ℕ
skips_two = begins_with 1 1
    (first_view 1 ++ hears two true ∷ verifies 1 0 two ++ second_view 1 ++ skips 2 ∷ builds 1 over_two)

-- member 2 received no certificate except that nullification, and lacks the notarization of view 1
abbrev pub member_without_notarization : Execution ℕ ℕ ℕ
member_without_notarization = begins_with 1 2 (
    hears one true
    ∷ verifies 2 3 one
    ++ skips 2
    ∷ hears over_two true
    ∷ (Calls TryVerify, Standing (Resolve 3 1 Notarization 1))
    ∷ [])

-- four members, of which the first leader is faulty
abbrev pub missing_certificates : List (Replica ℕ ℕ ℕ)
missing_certificates = Honest lacks_nullification ∷ Honest skips_two ∷ Honest member_without_notarization ∷ Faulty ∷ []

-- a member certifies view 3 and finalizes it
abbrev pub finishes : ℕ → List (StepFacts ℕ ℕ ℕ × ReplyFacts ℕ ℕ)
finishes me = certifies over_two ++ finalizes me over_two

-- it does so after it received the nullification that it lacked
abbrev pub has_nullification : List (StepFacts ℕ ℕ ℕ × ReplyFacts ℕ ℕ)
has_nullification = skips 2 ∷ verifies 0 1 over_two ++ finishes 0

-- the same for the notarization
abbrev pub has_notarization : List (StepFacts ℕ ℕ ℕ × ReplyFacts ℕ ℕ)
has_notarization = certifies one ++ verifies 2 1 over_two ++ finishes 2

-- all three finalize view 3
abbrev pub supplied : List (Replica ℕ ℕ ℕ)
supplied =
    Honest (and_then lacks_nullification has_nullification)
    ∷ Honest (and_then skips_two (finishes 1))
    ∷ Honest (and_then member_without_notarization has_notarization)
    ∷ Faulty
    ∷ []
