-- Pieces of the executions of four members. Each step is paired with its reply; keys, electors and payloads are
-- numbers.
use Rattle.std.specs.Prelude.{ℕ, ◌+◌, ◌%◌, Bool, true, false, List, [], ◌∷◌, ◌++◌, map, Some, None}
use Rattle.simplex_types.specs.Certificates.{ProposalFacts, NullificationFacts, NotarizeVote, NullifyVote, FinalizeVote}
use Rattle.simplex_types.specs.Config.{Genesis}
use Rattle.simplex_types.specs.Terms.{term_index}
use Rattle.simplex_types.specs.declared.reasons.TimeoutReason.{TimeoutReason}
use Rattle.simplex_types.specs.declared.types.messages.Context.{Context}
use Rattle.simplex_types.specs.declared.types.messages.Proposal.{Proposal}
use Rattle.simplex_types.specs.declared.types.numbers.Round.{Round}
use Rattle.simplex_voter.specs.Facts.{Settings, Elect}
use Rattle.simplex_voter.specs.declared.voter.propose.ProposalRequest.TheVariants.{Propose}
use Rattle.simplex_voter.specs.declared.voter.verify.Verify.TheVariants.{Ready}
use Rattle.simplex_member.specs.Calls.{AddNotarization, AddNullification, AddFinalization, SetProposal, TryPropose, Proposed, TryVerify, Verified, ConstructNotarize, CertifyCandidates, Certified, ConstructNullify, ConstructFinalize, NextTimeout, ReplyFacts, Added, AddedNullification, Judged, Nullify, Finalize, Notarize, Standing, Answered, Requested, Candidates, TimesOut}
use Rattle.simplex_member.specs.Runs.{StepFacts, Calls}
use Rattle.simplex_record.specs.Start.{Setup, StartFacts}
use Rattle.laws_safety.specs.Executions.{Execution}

-- settings that they all have
abbrev pub settings : Settings
settings = record {
  epoch = 1;
  view_retention = 1;
  leader_timeout = 1000;
  certification_timeout = 2000;
  timeout_retry = 500;
  skip_budget = 4;
}

-- terms of this many views, in which none is voted for ahead
abbrev pub set_up_as : ℕ → ℕ → Setup ℕ ℕ
set_up_as term_length me = record {
  settings = settings;
  me = Some me;
  members = 0 ∷ 1 ∷ 2 ∷ 3 ∷ [];
  elector = 1;
  terms = record { term_length = term_length; optimistic_views = 0; stall_timeout = None };
  elects_early = true;
}

-- a view of epoch 1
abbrev pub round : ℕ → Round
round view = record { epoch = 1; view = view }

-- the payload is the view
abbrev pub proposal : ℕ → ℕ → Proposal ℕ
proposal view parent = record { round = round view; parent = parent; payload = view }

-- a certificate of a proposal, of no bytes
abbrev pub certificate : Proposal ℕ → ProposalFacts ℕ
certificate p = record { proposal = p; bytes = [] }

-- a nullification of a view, of no bytes
abbrev pub nullification : ℕ → NullificationFacts
nullification view = record { round = round view; bytes = [] }

-- the proposal of view 1, on genesis
abbrev pub one : Proposal ℕ
one = proposal 1 0

-- and the second, on the first
abbrev pub two : Proposal ℕ
two = proposal 2 1

-- the reply that has a vote to nullify, and says that it is the first
abbrev pub nullify_reply : ℕ → ℕ → ReplyFacts ℕ ℕ
nullify_reply me view = Nullify (Some (false, NullifyVote (round view) me))

-- the reply that has a vote to notarize
abbrev pub notarize_reply : ℕ → Proposal ℕ → ReplyFacts ℕ ℕ
notarize_reply me p = Notarize (Some (NotarizeVote p me))

-- the reply that has a vote to finalize
abbrev pub finalize_reply : ℕ → Proposal ℕ → ReplyFacts ℕ ℕ
finalize_reply me p = Finalize (Some (FinalizeVote p me))

-- member 3 leads the first term, then 0, 1, 2, 3 and so on; the elector is the length of terms
abbrev pub in_turn : Elect ℕ
in_turn length round seed = (term_index length round.view + 3) % 4

-- a start at genesis
abbrev pub begin_at : ℕ → ℕ → StartFacts ℕ ℕ ℕ
begin_at term_length me =
    record { setup = record (set_up_as term_length me) { elector = term_length }; floor = Genesis 0; now = 0 }

-- a member's start, and its steps after it
abbrev pub execution_from : StartFacts ℕ ℕ ℕ → List (StepFacts ℕ ℕ ℕ × ReplyFacts ℕ ℕ) → Execution ℕ ℕ ℕ
execution_from start steps = record { start = start; steps = map (λ e. e.0) steps; replies = map (λ e. e.1) steps }

-- a member that starts at genesis, and its steps after it
abbrev pub begins_with : ℕ → ℕ → List (StepFacts ℕ ℕ ℕ × ReplyFacts ℕ ℕ) → Execution ℕ ℕ ℕ
begins_with term_length me steps = execution_from (begin_at term_length me) steps

-- the payload of a view is its number
abbrev pub context_of : ℕ → Proposal ℕ → Context ℕ ℕ
context_of leader p = record { round = p.round; leader = leader; parent = (p.parent, p.parent) }

-- it builds a proposal and votes for it
abbrev pub builds : ℕ → Proposal ℕ → List (StepFacts ℕ ℕ ℕ × ReplyFacts ℕ ℕ)
builds me p =
    (Calls TryPropose, Requested (Some (Propose (context_of me p))))
    ∷ (Calls (Proposed p.round.view p.payload 0), Answered true)
    ∷ (Calls (ConstructNotarize p.round.view), notarize_reply me p)
    ∷ []

-- it verifies the proposal of a leader and votes for it
abbrev pub verifies : ℕ → ℕ → Proposal ℕ → List (StepFacts ℕ ℕ ℕ × ReplyFacts ℕ ℕ)
verifies me leader p =
    (Calls TryVerify, Standing (Ready (context_of leader p) p))
    ∷ (Calls (Verified p.round.view), Answered true)
    ∷ (Calls (ConstructNotarize p.round.view), notarize_reply me p)
    ∷ []

-- it receives a proposal, and whether that is the first one of its view
abbrev pub hears : Proposal ℕ → Bool → StepFacts ℕ ℕ ℕ × ReplyFacts ℕ ℕ
hears p first = (Calls (SetProposal p.round.view p), Answered first)

-- it accepts the notarization of a proposal
abbrev pub accepts_notarization : Proposal ℕ → StepFacts ℕ ℕ ℕ × ReplyFacts ℕ ℕ
accepts_notarization p = (Calls (AddNotarization (certificate p)), Added true None)

-- and receives the verdict that the proposal is certified
abbrev pub accepts : Proposal ℕ → List (StepFacts ℕ ℕ ℕ × ReplyFacts ℕ ℕ)
accepts p =
    accepts_notarization p
    ∷ (Calls (Certified p.round.view true 0), Judged true (Some (certificate p)))
    ∷ []

-- the same, and offers it for certification between
abbrev pub certifies : Proposal ℕ → List (StepFacts ℕ ℕ ℕ × ReplyFacts ℕ ℕ)
certifies p =
    accepts_notarization p
    ∷ (Calls CertifyCandidates, Candidates (p ∷ []) [])
    ∷ (Calls (Certified p.round.view true 0), Judged true (Some (certificate p)))
    ∷ []

-- it votes to finalize the proposal
abbrev pub votes_for : ℕ → Proposal ℕ → StepFacts ℕ ℕ ℕ × ReplyFacts ℕ ℕ
votes_for me p = (Calls (ConstructFinalize p.round.view), finalize_reply me p)

-- a vote to finalize the view is not allowed
abbrev pub may_not_finalize : ℕ → StepFacts ℕ ℕ ℕ × ReplyFacts ℕ ℕ
may_not_finalize view = (Calls (ConstructFinalize view), Finalize None)

-- it accepts the finalization of the proposal
abbrev pub accepts_finalization : Proposal ℕ → StepFacts ℕ ℕ ℕ × ReplyFacts ℕ ℕ
accepts_finalization p = (Calls (AddFinalization (certificate p) 0), Added true None)

-- it votes to finalize the proposal, and accepts the finalization
abbrev pub finalizes : ℕ → Proposal ℕ → List (StepFacts ℕ ℕ ℕ × ReplyFacts ℕ ℕ)
finalizes me p = votes_for me p ∷ accepts_finalization p ∷ []

-- it votes to nullify a view
abbrev pub votes_against : ℕ → ℕ → StepFacts ℕ ℕ ℕ × ReplyFacts ℕ ℕ
votes_against me view = (Calls (ConstructNullify view), nullify_reply me view)

-- the view times out, and it votes to nullify it
abbrev pub abandons : ℕ → ℕ → ℕ → TimeoutReason → List (StepFacts ℕ ℕ ℕ × ReplyFacts ℕ ℕ)
abandons me view at why = (Calls (NextTimeout 0), TimesOut (Some (at, why))) ∷ votes_against me view ∷ []

-- it accepts the nullification of a view
abbrev pub skips : ℕ → StepFacts ℕ ℕ ℕ × ReplyFacts ℕ ℕ
skips view = (Calls (AddNullification (nullification view) 0), AddedNullification true)

-- the first view: it verifies its proposal, certifies it, and votes to finalize it
abbrev pub first_view : ℕ → List (StepFacts ℕ ℕ ℕ × ReplyFacts ℕ ℕ)
first_view me = hears one true ∷ verifies me 3 one ++ certifies one ++ votes_for me one ∷ []
