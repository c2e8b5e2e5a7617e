-- A network of four of the plain parts that the program uses: the first view is finalized.
use Rattle.std.specs.Prelude.{ℕ, true, List, [], ◌∷◌, ◌++◌, map, Some, None}
use Rattle.simplex_types.specs.Certificates.{ProposalFacts, NotarizeVote, FinalizeVote}
use Rattle.simplex_types.specs.Config.{Genesis}
use Rattle.simplex_types.specs.Plain.{keys_below, terms_of}
use Rattle.simplex_types.specs.declared.types.messages.Context.{Context}
use Rattle.simplex_types.specs.declared.types.messages.Proposal.{Proposal}
use Rattle.simplex_types.specs.declared.types.plain.PlainDigest.{PlainDigest}
use Rattle.simplex_types.specs.declared.types.plain.PlainElector.{PlainElector}
use Rattle.simplex_types.specs.declared.types.plain.PlainKey.{PlainKey}
use Rattle.simplex_voter.specs.declared.voter.propose.ProposalRequest.TheVariants.{Propose}
use Rattle.simplex_voter.specs.declared.voter.verify.Verify.TheVariants.{Ready}
use Rattle.simplex_record.specs.Start.{StartFacts}
use Rattle.simplex_member.specs.Calls.{AddNotarization, AddFinalization, SetProposal, TryPropose, Proposed, TryVerify, Verified, ConstructNotarize, Certified, ConstructFinalize, ReplyFacts, Added, Judged, Finalize, Notarize, Standing, Answered, Requested}
use Rattle.simplex_member.specs.Runs.{StepFacts, Calls}
use Rattle.laws_safety.specs.Replicas.{Replica, Faulty, Honest}
use Rattle.laws_safety.specs.Executions.{Execution}
use Rattle.laws_safety.specs.ScenarioSteps.{settings, round}

-- an execution of a member of plain parts
abbrev pub PlainExecution : Type 0
PlainExecution = Execution PlainKey PlainElector PlainDigest

-- a step of it, with its reply
abbrev pub PlainTurn : Type 0
PlainTurn = StepFacts PlainKey PlainElector PlainDigest × ReplyFacts PlainKey PlainDigest

-- a member's start at genesis, among four
abbrev pub plain_genesis_start : PlainElector → PlainDigest → ℕ → StartFacts PlainKey PlainElector PlainDigest
plain_genesis_start elector payload me = record {
  setup = record {
    settings = settings;
    me = Some me;
    members = keys_below 4;
    elector = elector;
    terms = terms_of elector;
    elects_early = true;
  };
  floor = Genesis payload;
  now = 0;
}

-- the proposal of view 1, with the payload of genesis
abbrev pub plain_first : PlainDigest → Proposal PlainDigest
plain_first payload = record { round = round 1; parent = 0; payload = payload }

-- member 0 leads it
abbrev pub plain_context : PlainDigest → Context PlainDigest PlainKey
plain_context payload = record { round = round 1; leader = record { 0 = 0 }; parent = (0, payload) }

-- a valid certificate of it
abbrev pub plain_certificate : PlainDigest → ProposalFacts PlainDigest
plain_certificate payload = record { proposal = plain_first payload; bytes = 1 ∷ [] }

-- it builds the proposal
abbrev pub plain_builds : PlainDigest → List PlainTurn
plain_builds payload = (Calls TryPropose, Requested (Some (Propose (plain_context payload))))
    ∷ (Calls (Proposed 1 payload 0), Answered true) ∷ []

-- another one verifies it
abbrev pub plain_verifies : PlainDigest → List PlainTurn
plain_verifies payload =
    (Calls (SetProposal 1 (plain_first payload)), Answered true)
    ∷ (Calls TryVerify, Standing (Ready (plain_context payload) (plain_first payload)))
    ∷ (Calls (Verified 1), Answered true)
    ∷ []

-- it votes for the proposal to the end, and accepts its finalization
abbrev pub plain_votes : PlainDigest → ℕ → List PlainTurn
plain_votes payload me =
    (Calls (ConstructNotarize 1), Notarize (Some (NotarizeVote (plain_first payload) me)))
    ∷ (Calls (AddNotarization (plain_certificate payload)), Added true None)
    ∷ (Calls (Certified 1 true 0), Judged true (Some (plain_certificate payload)))
    ∷ (Calls (ConstructFinalize 1), Finalize (Some (FinalizeVote (plain_first payload) me)))
    ∷ (Calls (AddFinalization (plain_certificate payload) 0), Added true None)
    ∷ []

-- a member's start, and its steps
abbrev pub plain_execution : PlainElector → PlainDigest → ℕ → List PlainTurn → PlainExecution
plain_execution elector payload me steps =
    record {
      start = plain_genesis_start elector payload me;
      steps = map (λ e. e.0) steps;
      replies = map (λ e. e.1) steps;
    }

-- the leader
abbrev pub plain_proposer : PlainElector → PlainDigest → PlainExecution
plain_proposer elector payload = plain_execution elector payload 0 (plain_builds payload ++ plain_votes payload 0)

-- another member
abbrev pub plain_follower : PlainElector → PlainDigest → ℕ → PlainExecution
plain_follower elector payload me =
    plain_execution elector payload me (plain_verifies payload ++ plain_votes payload me)

-- four members, of which the last one is faulty
abbrev pub plain_four : PlainElector → PlainDigest → List (Replica PlainKey PlainElector PlainDigest)
plain_four elector payload =
    Honest (plain_proposer elector payload)
    ∷ Honest (plain_follower elector payload 1)
    ∷ Honest (plain_follower elector payload 2)
    ∷ Faulty
    ∷ []
